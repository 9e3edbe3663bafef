-- The events of a trace that show what happened.
use Rattle.std.specs.Prelude.{ℕ, ◌-◌, ◌==◌, List, [], ◌∷◌, ◌++◌, map, sum_by, zip, if◌then◌else◌, Option, Some, None}
use Rattle.std.specs.List.{flat_map, range_with_len}
use Rattle.sync_board.specs.Boards.{Kept, kept_of}
use Rattle.lb_snapshot.specs.Measured.{Taken}
use Rattle.run_trace.specs.declared.event.TraceEvent.{TraceEvent}
use Rattle.run_trace.specs.declared.event.TraceEvent.TheVariants.{Row, Slice, Instant, Decision, Load, Leaves, Comes}
use Rattle.run_trace.specs.declared.event.Work.TheVariants.{Start, Letter, Resume, Depart, Arrive}
use Rattle.run_trace.specs.declared.event.Sign.TheVariants.{Report, Resumption, Shelve, Forward}
use Rattle.run_trace.specs.declared.event.Flow.TheVariants as flow
use Rattle.run_trace.specs.declared.happening.Action.{Action}
use Rattle.run_trace.specs.declared.happening.Action.TheVariants.{Started, Executed, Shelved, Forwarded, Installed, Reported, Departed, Resumed}
use Rattle.run_trace.specs.declared.happening.What.{What}
use Rattle.run_trace.specs.declared.happening.What.TheVariants.{Done, Decided}
use Rattle.run_trace.specs.declared.happening.Happening.{Happening}

-- what a PE did at this time, for this long
abbrev pub action_events : ℕ → ℕ → ℕ → Action → List TraceEvent
action_events at duration pe (Started e) = Slice pe at duration Start e ∷ []
action_events at duration pe (Executed id e) = Slice pe at duration (Letter id.0 id.1) e ∷ Comes pe at (flow.Letter id.0 id.1) ∷ []
action_events at duration pe (Shelved id) = Instant pe at Shelve ∷ []
action_events at duration pe (Forwarded id) = Instant pe at Forward ∷ []
action_events at duration pe (Installed e) = Slice pe at duration Arrive e ∷ Comes pe at (flow.Element e) ∷ []
action_events at duration pe Reported = Instant pe at Report ∷ []
action_events at duration pe (Departed e) = Slice pe at duration Depart e ∷ Leaves pe at (flow.Element e) ∷ []
action_events at duration pe (Resumed e r) = Instant pe at Resumption ∷ Slice pe at duration (Resume r) e ∷ []

-- an arrow for this letter of a PE
abbrev pub post_event : ℕ → ℕ → ℕ → TraceEvent
post_event at pe n = Leaves pe at (flow.Letter pe n)

-- an arrow for each letter that a PE posted
abbrev pub post_events : ℕ → ℕ → ℕ → ℕ → List TraceEvent
post_events at pe first end = map (post_event at pe) (range_with_len first (end - first))

-- what happened at this time, for this long
abbrev pub what_events : ℕ → ℕ → What → List TraceEvent
what_events at duration (Done pe action first end) = action_events at duration pe action ++ post_events at pe first end
what_events at duration (Decided r) = Decision at r ∷ []

-- what happened
abbrev pub shown : Happening → List TraceEvent
shown h = what_events h.at h.duration h.what

-- a row for each PE
abbrev pub rows : ℕ → List TraceEvent
rows pes = map Row (range_with_len 0 pes)

-- an element's load where its place is the PE, and otherwise 0
abbrev pub load_at : ℕ → ℕ × (ℕ × ℕ) → ℕ
load_at pe element = if element.1.1 == pe then element.0 else 0

-- the load of a PE: the sum of the loads of the elements whose place it is
abbrev pub load_on : List ℕ → List (ℕ × ℕ) → ℕ → ℕ
load_on loads sizes pe = sum_by (load_at pe) (zip loads sizes)

-- the load of a PE in a snapshot that was taken then
abbrev pub load_event : ℕ → Taken → ℕ → TraceEvent
load_event at snapshot pe = Load pe at (load_on snapshot.loads snapshot.sizes pe)

-- the load of each PE, in order
abbrev pub load_events : ℕ → Taken → List TraceEvent
load_events at snapshot = map (load_event at snapshot) (range_with_len 0 snapshot.procs)

-- the loads of a round, if it was kept
abbrev pub kept_loads : {A : Type 0} → ℕ → Option (Kept A) → List TraceEvent
kept_loads at None = []
kept_loads at (Some kept) = load_events at kept.0

-- the loads of the round that was decided
abbrev pub decided_loads : {A : Type 0} → List (Kept A) → ℕ → What → List TraceEvent
decided_loads rounds at (Done pe action first end) = []
decided_loads rounds at (Decided r) = kept_loads at (kept_of rounds r)

-- the loads of the round that was decided, if what happened is a decision
abbrev pub loads_shown : {A : Type 0} → List (Kept A) → Happening → List TraceEvent
loads_shown rounds h = decided_loads rounds h.at h.what

-- the events of a trace: the rows, what happened, and the loads of each round that was decided
abbrev pub all_events : {A : Type 0} → ℕ → List Happening → List (Kept A) → List TraceEvent
all_events pes happenings rounds = rows pes ++ flat_map shown happenings ++ flat_map (loads_shown rounds) happenings
