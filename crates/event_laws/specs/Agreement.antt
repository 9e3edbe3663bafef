-- How the reports on the board and the marks of the elements agree: which elements have reported for the round under way,
-- which are still at work in it, and which wait for the place that the last decision gives them. Source: the Charm++ manual
-- on load balancing, where an element that reaches AtSync waits, and is counted once; that it keeps a mark of what it
-- reported to the board is this project's choice.
use Rattle.std.specs.Prelude.{◌≡◌, ℕ, ◌+◌, ◌<◌, ◌≤◌, List, length, All, Contains, Bool, true, false, ◌==◌, ◌⊎◌, None, Some, IfSome, IsSome, slice_get}
use Rattle.std.specs.Map.{values_of}
use Rattle.chare_index.specs.declared.limits.TheConstants.Limits.{LOAD}
use Rattle.lb_snapshot.specs.Measured.{Taken}
use Rattle.sync_board.specs.Boards.{Kept, kept_of}
use Rattle.lb_database.specs.Measuring.{Measured, elements, report_of}
use Rattle.chares.specs.declared.carried.Carried.TheVariants.{Letter, Element}
use Rattle.chares.specs.declared.note.Mark.TheVariants.{Synced}
use Rattle.chares.specs.declared.note.Note.{Note}
use Rattle.chares.specs.declared.note.Note.TheVariants.{Sync, Finish}
use Rattle.chares.specs.declared.progress.Progress.{Progress}
use Rattle.chares.specs.declared.trace_entry.TraceEntry.TheVariants.{Decided}
use Rattle.chares.specs.Elements.{ElementView}
use Rattle.chares.specs.Progressing.{is_finish}
use Rattle.pe_state.specs.Pes.{PeView, Parcel}
use Rattle.pe_state.specs.Rooms.{found}
use Rattle.rts_core.specs.Accounts.{times}
use Rattle.rts_core.specs.Events.{After, board_after}
use Rattle.rts_core.specs.Worlds.{WorldView}

-- an element that has not started is in round 0, and does not wait
abbrev pub IsFresh : Progress → Type 0
IsFresh p = p.started ≡ false → (p.round ≡ 0) × (p.synced ≡ false)

-- An element is at work in the round under way: it does not wait, the round that it was resumed for last is the one
-- before, where a start counts as round 0, and the board has no report of it.
pub record IsAtWork (m : Measured) (e : ℕ) (p : Progress) : Type 0 where
  pub awake : p.synced ≡ false
  pub at_round : m.round ≡ p.round + 1
  pub silent : report_of m e ≡ None

-- An element on a PE owes a note: it waits for the end of the round under way, which the note is to report to the board, and
-- the note is among its marks.
pub record Owes {C : Type 0} (m : Measured) (me : ℕ) (el : ElementView C) (note : Note) : Type 0 where
  pub units : ℕ
  pub bytes : ℕ
  pub says : note ≡ Sync el.index m.round units bytes me
  pub small : units ≤ LOAD
  pub waits : el.progress.synced ≡ true
  pub at_round : m.round ≡ el.progress.round + 1
  pub silent : report_of m el.index ≡ None
  pub marked : Contains el.marks (Synced note)

-- an element owes its note: the note is in the list of those that the PE still owes the board
pub record OwesItsNote {C : Type 0} (m : Measured) (me : ℕ) (notes : List Note) (el : ElementView C) : Type 0 where
  pub note : Note
  pub owes : Owes m me el note
  pub listed : Contains notes note

-- An element on a PE has reported: it waits for the end of the round under way, and the board has its size, its PE and
-- its load as its mark has them.
pub record HasReported {C : Type 0} (m : Measured) (me : ℕ) (el : ElementView C) : Type 0 where
  pub units : ℕ
  pub bytes : ℕ
  pub waits : el.progress.synced ≡ true
  pub at_round : m.round ≡ el.progress.round + 1
  pub reported : report_of m el.index ≡ Some (bytes, me)
  pub charged : slice_get m.loads el.index ≡ Some units
  pub marked : Contains el.marks (Synced (Sync el.index m.round units bytes me))

-- An element waits for its place: the round for whose end it waits is the last that was decided, and the board has no
-- report of it in the one under way.
pub record WaitsForPlace (m : Measured) (e : ℕ) (p : Progress) : Type 0 where
  pub waits : p.synced ≡ true
  pub at_round : m.round ≡ p.round + 2
  pub silent : report_of m e ≡ None

-- an element on a PE is in one of these four
abbrev pub IsInSomeState : {C : Type 0} → Measured → ℕ → List Note → ElementView C → Type 0
IsInSomeState m me notes el =
    IsAtWork m el.index el.progress ⊎ (OwesItsNote m me notes el ⊎ (HasReported m me el ⊎ WaitsForPlace m el.index el.progress))

-- the board and an element on a PE agree
pub record AgreesWith {C : Type 0} (m : Measured) (me : ℕ) (notes : List Note) (el : ElementView C) : Type 0 where
  pub known : el.index < elements m
  pub fresh : IsFresh el.progress
  pub state : IsInSomeState m me notes el

-- the board and a parcel agree: an element on its way waits for its place
abbrev pub AgreesOn : Measured → Parcel → Type 0
AgreesOn m (Letter l) = Unit {0}
AgreesOn m (Element p) = (p.index < elements m) × IsFresh p.progress × WaitsForPlace m p.index p.progress

-- the element that a note is of
abbrev pub index_of : Note → ℕ
index_of (Sync e round units bytes pe) = e
index_of (Finish e) = e

-- A note is of an element that the board knows, and where it says that an element waits, an element in the room owes it.
abbrev pub IsOwed : {C : Type 0} → Measured → ℕ → List (ℕ × ElementView C) → Note → Type 0
IsOwed {C} m me room note =
    (index_of note < elements m) × (is_finish note ≡ false → (el : ElementView C) × (found el.index room ≡ Some el) × Owes m me el note)

-- whether a note says that this element waits
abbrev pub is_wait_of : ℕ → Note → Bool
is_wait_of e (Sync i round units bytes pe) = i == e
is_wait_of e (Finish i) = false

-- The board and a PE agree: each element of the room is beside its own index and agrees, each note is owed, no element has
-- two of them, and each element in the hand or in the outbox waits for its place.
pub record AgreesAt {C : Type 0} (m : Measured) (pe : PeView C) : Type 0 where
  pub keyed : All (λ (place : ℕ × ElementView C). place.1.index ≡ place.0) pe.room
  pub room : All (AgreesWith m pe.me pe.notes) (values_of pe.room)
  pub notes : All (IsOwed m pe.me pe.room) pe.notes
  pub once : (e : ℕ) → times (is_wait_of e) pe.notes ≤ 1
  pub hand : IfSome pe.hand (λ x. AgreesOn m x.parcel)
  pub outbox : All (λ x. AgreesOn m x.parcel) pe.outbox

-- What the board has measured is of n elements, and it has no load of an element that has not reported.
pub record IsOpenFor (n : ℕ) (m : Measured) : Type 0 where
  pub counted : elements m ≡ n
  pub paired : length m.reports ≡ n
  pub uncharged : (e : ℕ) → e < n → report_of m e ≡ None → slice_get m.loads e ≡ Some 0

-- The board and the elements of a world of n elements agree. The round under way is the one after those that are kept, and
-- the board has the PEs of the world.
pub record Agrees {C A : Type 0} (n : ℕ) (w : WorldView C A) : Type 0 where
  pub measured : IsOpenFor n w.board.database
  pub numbered : w.board.database.round ≡ length w.board.rounds + 1
  pub counted : length w.pes ≡ w.board.pes
  pub places : (p : ℕ) (pe : PeView C) → slice_get w.pes p ≡ Some pe → pe.me ≡ p
  pub pes : All (AgreesAt w.board.database) w.pes
  pub queues : All (All (AgreesOn w.board.database)) w.queues

-- Every note that a PE of the world owes is one that the board takes.
abbrev pub AllTaken : {C A : Type 0} → WorldView C A → Type 0
AllTaken w = All (λ pe. All (λ note. IsSome (board_after w.board note)) pe.notes) w.pes

-- A snapshot has element e of a world as its mark for the round has it: the element is on the PE that the snapshot has as its
-- place, and its size and its load are those that it reported as it began to wait.
pub record IsTakenOf {C A : Type 0} (w : WorldView C A) (snapshot : Taken) (e r : ℕ) : Type 0 where
  pub p : ℕ
  pub pe : PeView C
  pub el : ElementView C
  pub load : ℕ
  pub bytes : ℕ
  pub at : slice_get w.pes p ≡ Some pe
  pub stands : found e pe.room ≡ Some el
  pub sized : slice_get snapshot.sizes e ≡ Some (bytes, p)
  pub loaded : slice_get snapshot.loads e ≡ Some load
  pub marked : Contains el.marks (Synced (Sync e r load bytes p))

-- an event that decides a round keeps a snapshot of it that has each of n elements in this way
abbrev pub DecidesOfMarks : {C A : Type 0} → ℕ → WorldView C A → After C A → Type 0
DecidesOfMarks {C} {A} n w next =
    (r : ℕ) → Contains next.1 (Decided r)
    → (kept : Kept A) × (kept_of next.0.board.rounds r ≡ Some kept) × ((e : ℕ) → e < n → IsTakenOf w kept.0 e r)
