-- When the elements of a run agree with the rounds that its board decided, in the words of the rounds alone. Of an element whose rounds
-- come in order nothing more is required: that it has no mark of a round after the next, say, follows.
use Rattle.std.specs.Prelude.{◌≡◌, ℕ, ◌-◌, ◌≤◌, List, length, All, slice_get, Option, None, Some, IfSome, IsSomeAnd}
use Rattle.sync_board.specs.Boards.{BoardState, kept_of}
use Rattle.chares.specs.declared.carried.Carried.TheVariants.{Letter, Element}
use Rattle.chares.specs.declared.note.Mark.{Mark}
use Rattle.chares.specs.declared.note.Mark.TheVariants.{Synced, Resumed}
use Rattle.chares.specs.declared.note.Note.TheVariants.{Sync, Finish}
use Rattle.pe_state.specs.Pes.{PeView, Parcel}
use Rattle.round_marks.specs.Marked.{IsMeasuredAs, IsResumptionMark, StandsAsMarked, times_reached}

-- where the round of a mark is decided, its load, size and PE are those that the snapshot of that round has of element e
abbrev pub IsMeasuredMark : {A : Type 0} → BoardState A → ℕ → Mark → Type 0
IsMeasuredMark b e (Synced (Sync i round units bytes pe)) = IfSome (kept_of b.rounds round) (λ kept. IsMeasuredAs kept.0 e units bytes pe)
IsMeasuredMark b e (Synced (Finish i)) = Unit {0}
IsMeasuredMark b e (Resumed round pe) = Unit {0}

-- Element e, which opened on the PE `home` and is in the room of the PE `place`, or packed where there is none, agrees with the rounds:
-- for each decided round it has one mark that it reached AtSync, with what the round's snapshot has of it; each resumption is at home for
-- the start, and else after a decided round, at its place in the decision of that; and where the last mark is of a resumption, it is there.
pub record AgreesWith {A : Type 0} (b : BoardState A) (e home : ℕ) (place : Option ℕ) (marks : List Mark) : Type 0 where
  pub once : (round : ℕ) → 1 ≤ round → round ≤ length b.rounds → times_reached round marks ≡ 1
  pub measured : All (IsMeasuredMark b e) marks
  pub resumed : All (IsResumptionMark b e home) marks
  pub stands : IfSome (slice_get marks (length marks - 1)) (StandsAsMarked place)

-- an element that opened on its home
abbrev pub Agrees : {A : Type 0} → BoardState A → List ℕ → ℕ → Option ℕ → List Mark → Type 0
Agrees b homes e place marks = IsSomeAnd (slice_get homes e) (λ home. AgreesWith b e home place marks)

-- one that is packed; of a letter this requires nothing
abbrev pub AgreesParcel : {A : Type 0} → BoardState A → List ℕ → Parcel → Type 0
AgreesParcel b homes (Letter l) = Unit {0}
AgreesParcel b homes (Element p) = Agrees b homes p.index None p.marks

-- all elements that a PE has
pub record AgreesPe {A C : Type 0} (b : BoardState A) (homes : List ℕ) (pe : PeView C) : Type 0 where
  pub room : All (λ x. Agrees b homes x.1.index (Some pe.me) x.1.marks) pe.room
  pub hand : IfSome pe.hand (λ x. AgreesParcel b homes x.parcel)
  pub outbox : All (λ x. AgreesParcel b homes x.parcel) pe.outbox

-- all elements of a run that ended with these PEs and left these parcels in the queues
pub record DoAllAgree {A C : Type 0} (b : BoardState A) (homes : List ℕ) (ends : List (PeView C)) (left : List (List Parcel)) : Type 0 where
  pub at_pes : All (AgreesPe b homes) ends
  pub in_queues : All (All (AgreesParcel b homes)) left
