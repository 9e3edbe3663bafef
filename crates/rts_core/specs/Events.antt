-- What each event of a run does: where it is enabled, the world after it, and its trace entries in order. The events
-- are those of docs/EVENTS.md; what a handler does, and Act in its four cases, is said of one PE.
use Rattle.std.specs.Prelude.{◌≡◌, ℕ, ◌+◌, List, [], ◌∷◌, ◌++◌, Option, None, Some, Bool, not, ◌&&◌, ◌==◌, ◌⊎◌, Result, if◌then◌else◌, nat_lt, is_none, slice_get, slice_set, MatchOption}
use Rattle.std.specs.Option.{option_map, option_and_then}
use Rattle.sync_board.specs.Boards.{BoardState, Decides, place_in, after_report, after_finish}
use Rattle.lb_database.specs.Measuring.{IsComplete, elements, report_of}
use Rattle.chares.specs.declared.note.Note.{Note}
use Rattle.chares.specs.declared.note.Note.TheVariants.{Sync, Finish}
use Rattle.chares.specs.declared.trace_entry.TraceEntry.{TraceEntry}
use Rattle.chares.specs.declared.trace_entry.TraceEntry.TheVariants.{Synced, Decided, Departed}
use Rattle.chares.specs.Steps.{Step}
use Rattle.pup_pack.specs.declared.error.PupError.{PupError}
use Rattle.rts_core.specs.declared.event.Event.{Event}
use Rattle.rts_core.specs.declared.event.Event.TheVariants.{Start, Look, Flush, Deliver, Act, Report, Decide, Depart, Resume}
use Rattle.pe_state.specs.Pes.{PeView, Parcel, wanted, looked, front_address, front_parcel, gave_up, received, noted, resumed, resume_entries, departed, acting, waits_for}
use Rattle.pe_state.specs.Rooms.{found}
use Rattle.rts_core.specs.Worlds.{WorldView}

-- where the first is present, what follows from it
infixl 10 ◌>>=◌
abbrev pub ◌>>=◌ : {X Y : Type 0} → Option X → (X → Option Y) → Option Y
o >>= f = option_and_then f o

-- this, where a test holds
abbrev pub where_true : {X : Type 0} → Bool → Option X → Option X
where_true test o = if test then o else None

-- the front of a queue, and the rest
abbrev pub front_of : {X : Type 0} → List X → Option (X × List X)
front_of [] = None
front_of (x ∷ xs) = Some (x, xs)

-- element e is on a PE and waits for the end of a round that is decided: that round, and its place in the decision
abbrev pub due : {C A : Type 0} → PeView C → BoardState A → ℕ → Option (ℕ × ℕ)
due pe b e = do
  el ← found e pe.room
  round ← waits_for el
  q ← place_in b round e
  Some (round, q)

-- the board after a note, where the board takes it: a report of an element that it knows, on one of its PEs, for its
-- round, and the element's first there; or a note that an element that it knows has finished
abbrev pub board_after : {A : Type 0} → BoardState A → Note → Option (BoardState A)
board_after b (Sync e round units bytes pe) =
    where_true
    (nat_lt pe b.pes && (nat_lt e (elements b.database) && ((round == b.database.round) && is_none (report_of b.database e))))
    (Some (after_report b e units bytes pe))
board_after b (Finish e) = where_true (nat_lt e (elements b.database)) (Some (after_finish b e))

-- the trace entries of a note
abbrev pub note_entries : Note → List TraceEntry
note_entries (Sync e round units bytes pe) = Synced e round ∷ []
note_entries (Finish e) = []

-- The result of an event for a PE, and for what else the event reads or changes, where it is enabled.
module _ {C : Type 0} where
  -- Look: a letter has to be looked up; it gets the PE in the location word of its element
  abbrev pub look_event : PeView C → List ℕ → Option (PeView C)
  look_event pe words = do
    e ← wanted pe
    word ← slice_get words e
    Some (looked pe word)

  -- Flush: the front of the outbox has an address; it goes to the back of that PE's queue
  abbrev pub flush_event : PeView C → List (List Parcel) → Option (PeView C × List (List Parcel))
  flush_event pe queues = do
    q ← front_address pe.outbox
    parcel ← front_parcel pe.outbox
    queue ← slice_get queues q
    Some (gave_up pe, slice_set queues q (queue ++ parcel ∷ []))

  -- Deliver: the hand is empty, and the queue is not; the front of the queue goes into the hand
  abbrev pub delivered : PeView C → List Parcel → Option (PeView C × List Parcel)
  delivered pe queue = do
    front ← where_true (is_none pe.hand) (front_of queue)
    Some (received pe front.0, front.1)

  abbrev pub deliver_event : PeView C → List (List Parcel) → ℕ → Option (PeView C × List (List Parcel))
  deliver_event pe queues p = do
    queue ← slice_get queues p
    after ← delivered pe queue
    Some (after.0, slice_set queues p after.1)

  -- Report: a note is owed; the first one goes to the board, which takes it
  abbrev pub report_event : {A : Type 0} → PeView C → BoardState A → Option (PeView C × BoardState A × List TraceEntry)
  report_event pe b = do
    note ← slice_get pe.notes 0
    after ← board_after b note
    Some (noted pe, after, note_entries note)

module _ {C : Type 0} (step : Step C) (pack : C → List ℕ) where
  -- Start: e is in the room and has not started; its handler runs for round 0
  abbrev pub start_event : PeView C → ℕ → Option (PeView C × List TraceEntry)
  start_event pe e = do
    el ← found e pe.room
    where_true (not el.progress.started) (Some (resumed step pack pe e 0, resume_entries step pack pe e 0))

  -- Depart, of PE p: e waits for the end of a round that is decided, and its place is another PE; it is packed and put
  -- into the outbox for that PE, which its location word names from now on
  abbrev pub depart_event : {A : Type 0} → ℕ → PeView C → List ℕ → BoardState A → ℕ → Option (PeView C × List ℕ × List TraceEntry)
  depart_event p pe words b e = do
    at ← due pe b e
    where_true (not (at.1 == p)) (Some (departed pack pe e at.1, slice_set words e at.1, Departed e ∷ []))

  -- Resume, of PE p: the same, and its place is p; its handler runs for that round
  abbrev pub resume_event : {A : Type 0} → ℕ → PeView C → BoardState A → ℕ → Option (PeView C × List TraceEntry)
  resume_event p pe b e = do
    at ← due pe b e
    where_true (at.1 == p) (Some (resumed step pack pe e at.0, resume_entries step pack pe e at.0))

  -- Act: what the hand holds is installed, executed, shelved or forwarded
  abbrev pub act_event : (List ℕ → Result (C × ℕ) PupError) → PeView C → Option (PeView C × List TraceEntry)
  act_event unpack pe = option_map (λ a. (a.pe, a.trace)) (acting step pack unpack pe)

-- The local view of a PE, which makes a step: the PE itself, the queues, the location words and the board.
pub record LocalView (C A : Type 0) : Type 0 where
  pub pe : PeView C
  pub queues : List (List Parcel)
  pub words : List ℕ
  pub board : BoardState A

-- the PE that makes the step of an event
abbrev pub pe_of : Event → Option ℕ
pe_of (Start p e) = Some p
pe_of (Look p) = Some p
pe_of (Flush p) = Some p
pe_of (Deliver p) = Some p
pe_of (Act p) = Some p
pe_of (Report p) = Some p
pe_of Decide = None
pe_of (Depart p e) = Some p
pe_of (Resume p e) = Some p

module _ {C A : Type 0} (step : Step C) (pack : C → List ℕ) (unpack : List ℕ → Result (C × ℕ) PupError) where
  -- its step: what that PE sees after the event, with the trace entries, where the event is enabled
  abbrev pub local_step : Event → LocalView C A → Option (LocalView C A × List TraceEntry)
  local_step (Start p e) d = do
    after ← start_event step pack d.pe e
    Some (record d { pe = after.0 }, after.1)
  local_step (Look p) d = do
    after ← look_event d.pe d.words
    Some (record d { pe = after }, [])
  local_step (Flush p) d = do
    after ← flush_event d.pe d.queues
    Some (record d { pe = after.0; queues = after.1 }, [])
  local_step (Deliver p) d = do
    after ← deliver_event d.pe d.queues p
    Some (record d { pe = after.0; queues = after.1 }, [])
  local_step (Act p) d = do
    after ← act_event step pack unpack d.pe
    Some (record d { pe = after.0 }, after.1)
  local_step (Report p) d = do
    after ← report_event d.pe d.board
    Some (record d { pe = after.0; board = after.1 }, after.2)
  local_step (Depart p e) d = do
    after ← depart_event step pack p d.pe d.words d.board e
    Some (record d { pe = after.0; words = after.1 }, after.2)
  local_step (Resume p e) d = do
    after ← resume_event step pack p d.pe d.board e
    Some (record d { pe = after.0 }, after.1)
  local_step Decide d = None

-- the world after an event, and the trace entries of the event
abbrev pub After : Type 0 → Type 0 → Type 0
After C A = WorldView C A × List TraceEntry

-- the local view of a PE of the world, and the world after the step of that PE
abbrev pub local_view : {C A : Type 0} → WorldView C A → PeView C → LocalView C A
local_view w pe = record { pe = pe; queues = w.queues; words = w.words; board = w.board }

abbrev pub with_local : {C A : Type 0} → WorldView C A → ℕ → LocalView C A → WorldView C A
with_local w p d = record { pes = slice_set w.pes p d.pe; queues = d.queues; words = d.words; board = d.board }

-- an event that is not enabled changes nothing, and adds nothing to the trace
abbrev pub or_nothing : {C A : Type 0} → WorldView C A → Option (After C A) → After C A
or_nothing w None = (w, [])
or_nothing w (Some after) = after

-- Decide, where every element has reported in a round that is not the last: the board decides it
pub record IsDecision {A : Type 0} (before after : BoardState A) (reports : List TraceEntry) : Type 0 where
  pub decides : Decides before after
  pub traced : reports ≡ Decided before.database.round ∷ []

-- Decide, where an element has not reported
pub record IsTooEarly {A : Type 0} (before after : BoardState A) (reports : List TraceEntry) : Type 0 where
  pub incomplete : ¬ (IsComplete before.database)
  pub same : after ≡ before
  pub quiet : reports ≡ []

-- the board decides, or it is too early
abbrev pub MayDecide : {A : Type 0} → BoardState A → BoardState A → List TraceEntry → Type 0
MayDecide before after reports = IsDecision before after reports ⊎ IsTooEarly before after reports

module _ {C A : Type 0} (step : Step C) (pack : C → List ℕ) (unpack : List ℕ → Result (C × ℕ) PupError) where
  -- the result of an event of this PE for the world, where it is enabled; there may be no such PE
  abbrev pub enabled : WorldView C A → Event → ℕ → Option (After C A)
  enabled w event p = do
    pe ← slice_get w.pes p
    after ← local_step step pack unpack event (local_view w pe)
    Some (with_local w p after.0, after.1)

  -- the result of an event for a world; where a round is decided, any of the best decisions may be made
  abbrev pub Happens : WorldView C A → Event → After C A → Type 0
  Happens w event after =
      MatchOption (pe_of event)
      (MayDecide w.board after.0.board after.1 × (after.0 ≡ record w { board = after.0.board }))
      (λ p. after ≡ or_nothing w (enabled w event p))
