-- The events of a run of ranks whose notes come late, the worlds that it leads to, and what holds of each of these.
use Rattle.std.specs.Prelude.{ℕ, ◌≤◌, List, [], ◌∷◌, Option, None, Some}
use Rattle.std.specs.List.{flat_map}
use Rattle.sync_board.specs.declared.strategy.Strategy.{Strategy}
use Rattle.chares.specs.declared.trace_entry.TraceEntry.{TraceEntry}
use Rattle.foreign_chare.specs.Scripts.{Stamp}
use Rattle.overtaking_laws.specs.StaleRuns.{ReachesByCopies}
use Rattle.rank_calls.specs.Runs.{Run, opening, stamp_pack, stamp_unpack, step_in}
use Rattle.rank_ledgers.specs.Ranks.{done_by}
use Rattle.rank_worlds.specs.LateNotes.{IsWorldOf, LateStep, Ranks, ReachesLate, opening_late}
use Rattle.rank_worlds.specs.LateNotes.LateStep.{Asks, Takes, Decides}
use Rattle.rank_worlds.specs.Worlds.{event_of}
use Rattle.rts_core.specs.Calls.{Call, NoteDone}
use Rattle.rts_core.specs.Events.{After}
use Rattle.rts_core.specs.Worlds.{WorldView, opening_world}
use Rattle.rts_core.specs.declared.event.Event.{Event}
use Rattle.rts_core.specs.declared.event.Event.TheVariants.{Decide, Report}

-- the event that a call of rank p is; that a rank says of a note that it is done is none, since the board takes the note later
abbrev pub late_event : ℕ → Call Stamp → Option Event
late_event p NoteDone = None
late_event p call = event_of p call

-- an event, where there is one, with this copy of the location words
abbrev pub with_copy : List ℕ → Option Event → List (List ℕ × Event)
with_copy words None = []
with_copy words (Some event) = (words, event) ∷ []

-- the event that a step is, or none; what the board does reads no location words
abbrev pub event_in : LateStep → List (List ℕ × Event)
event_in (Asks words p request reply) = with_copy words (late_event p (done_by request reply))
event_in (Takes p) = with_copy [] (Some (Report p))
event_in Decides = with_copy [] (Some Decide)

-- the events of steps, in order
abbrev pub events_in : List LateStep → List (List ℕ × Event)
events_in steps = flat_map event_in steps

module _ {A : Type 0} (run : Run) where
  -- the events of these steps lead from one world to another, with this trace
  abbrev pub ReachesByEvents : WorldView Stamp A → List LateStep → WorldView Stamp A → List TraceEntry → Type 0
  ReachesByEvents w steps next trace = ReachesByCopies (step_in run) stamp_pack stamp_unpack w (events_in steps) (next, trace)

  -- A world that all ranks lead to by these steps: it is a world of what they have then, and the events of the steps lead to it from the opening
  -- world, with the same trace.
  pub record IsLedTo (strategy : Strategy) (steps : List LateStep) (last : Ranks A × List TraceEntry) (w : WorldView Stamp A) : Type 0 where
    pub of_last : IsWorldOf last.0 w
    pub reaches : ReachesByEvents (opening_world run.pes (opening run) strategy) steps w last.1

-- What holds of every run of ranks whose notes come late: of the run that its answers name, and of each world that the ranks lead to, with the
-- trace.
abbrev pub ForEachLateRun : {A : Type 0} → (Run → WorldView Stamp A → List TraceEntry → Type 0) → Type 0
ForEachLateRun {A} P =
    (run : Run) (strategy : Strategy) (steps : List LateStep) (last : Ranks A × List TraceEntry) → 1 ≤ run.pes
    → ReachesLate run (opening_late run strategy) steps last → (w : WorldView Stamp A) → IsLedTo run strategy steps last w → P run w last.1

-- What holds of every step after such a run: of each world that the ranks lead to before it, and of each world of what they have after it that
-- its event leads to from there, with the trace entries of the step.
abbrev pub ForEachLateStep : {A : Type 0} → (Run → WorldView Stamp A → After Stamp A → Type 0) → Type 0
ForEachLateStep {A} P =
    (run : Run) (strategy : Strategy) (steps : List LateStep) (last next : Ranks A × List TraceEntry) (made : LateStep) → 1 ≤ run.pes
    → ReachesLate run (opening_late run strategy) steps last → ReachesLate run last.0 (made ∷ []) next
    → (w after : WorldView Stamp A) → IsLedTo run strategy steps last w → IsWorldOf next.0 after → ReachesByEvents run w (made ∷ []) after next.1
    → P run w (after, next.1)
