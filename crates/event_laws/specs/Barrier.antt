-- The barrier of a round, over the trace of a run: no element goes on before every element has reported and the round
-- was decided, and it goes on at its place in that decision. Source: the Charm++ manual on load balancing, where the
-- elements of an array are balanced once all of them have called AtSync, and go on in ResumeFromSync. That an element
-- goes on while others are still on their way to their places is this project's choice.
use Rattle.std.specs.Prelude.{◌≡◌, ℕ, ◌<◌, ◌≤◌, List, ◌∷◌, ◌++◌, Contains, Bool, false, ◌&&◌, ◌==◌, Some, slice_get}
use Rattle.chares.specs.declared.trace_entry.TraceEntry.{TraceEntry}
use Rattle.chares.specs.declared.trace_entry.TraceEntry.TheVariants.{Synced, Decided, Resumed}
use Rattle.chares.specs.Elements.{ElementView}
use Rattle.pe_state.specs.Pes.{PeView}
use Rattle.pe_state.specs.Rooms.{found}
use Rattle.sync_board.specs.Boards.{Kept, kept_of, place_in}
use Rattle.rts_core.specs.Accounts.{times}
use Rattle.rts_core.specs.Events.{After}
use Rattle.rts_core.specs.Worlds.{WorldView}

-- whether a trace entry says that this round was decided
abbrev pub is_decided : ℕ → TraceEntry → Bool
is_decided r (Decided s) = s == r
is_decided r x = false

-- whether it says that this element was resumed for this round
abbrev pub is_resumed : ℕ → ℕ → TraceEntry → Bool
is_resumed e r (Resumed x s) = (x == e) && (s == r)
is_resumed e r x = false

-- The trace of a run of n elements keeps the barrier: before an element is resumed for a round, of which the first is 1,
-- every element has reported in it and it was decided, exactly once; no round is decided twice; and no element is
-- resumed for the same round twice, where its start is its resumption for round 0.
pub record IsBarrier (n : ℕ) (trace : List TraceEntry) : Type 0 where
  pub all_synced : (before after : List TraceEntry) (e r : ℕ) → trace ≡ before ++ Resumed e r ∷ after → 1 ≤ r → (x : ℕ) → x < n → Contains before (Synced x r)
  pub decided_once : (before after : List TraceEntry) (e r : ℕ) → trace ≡ before ++ Resumed e r ∷ after → 1 ≤ r → times (is_decided r) before ≡ 1
  pub once_decided : (r : ℕ) → times (is_decided r) trace ≤ 1
  pub resumed_once : (e r : ℕ) → times (is_resumed e r) trace ≤ 1

-- element e is in the room of PE p, which is its place in the decision of round r; what is found at e has this index
pub record StandsInItsPlace {C A : Type 0} (w : WorldView C A) (e r : ℕ) : Type 0 where
  pub p : ℕ
  pub pe : PeView C
  pub el : ElementView C
  pub at : slice_get w.pes p ≡ Some pe
  pub stands : found e pe.room ≡ Some el
  pub mine : el.index ≡ e
  pub place : place_in w.board r e ≡ Some p

-- an event that resumes an element for a round, of which the first is 1, does so where the element is at its place, and
-- it is there after the event
abbrev pub ResumesInPlace : {C A : Type 0} → WorldView C A → After C A → Type 0
ResumesInPlace w next = (e r : ℕ) → Contains next.1 (Resumed e r) → 1 ≤ r → StandsInItsPlace w e r × StandsInItsPlace next.0 e r

-- what is kept of a round, its snapshot and its decision, does not change
abbrev pub KeepsRounds : {C A : Type 0} → WorldView C A → After C A → Type 0
KeepsRounds {C} {A} w next = (r : ℕ) (kept : Kept A) → kept_of w.board.rounds r ≡ Some kept → kept_of next.0.board.rounds r ≡ Some kept
