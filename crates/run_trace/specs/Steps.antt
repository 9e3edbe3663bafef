-- What happened in an event of a world, by its trace entries.
use Rattle.std.specs.Prelude.{ℕ, ◌+◌, ◌*◌, ◌-◌, ◌^◌, List, [], ◌∷◌, ◌++◌, Option, Some, None, min, nat_eq, if◌then◌else◌, option_map}
use Rattle.chares.specs.declared.trace_entry.TraceEntry.{TraceEntry}
use Rattle.chares.specs.declared.trace_entry.TraceEntry.TheVariants as entry
use Rattle.rts_core.specs.declared.event.Event.{Event}
use Rattle.rts_core.specs.declared.event.Event.TheVariants as event
use Rattle.run_trace.specs.declared.happening.Action.{Action}
use Rattle.run_trace.specs.declared.happening.Action.TheVariants.{Started, Executed, Shelved, Forwarded, Installed, Reported, Departed, Resumed}
use Rattle.run_trace.specs.declared.happening.What.{What}
use Rattle.run_trace.specs.declared.happening.What.TheVariants.{Done, Decided}
use Rattle.run_trace.specs.declared.happening.Happening.{Happening}

-- the letters of these entries, after those with the numbers from the first up to the end
abbrev pub posts_from : ℕ → ℕ → List TraceEntry → ℕ × ℕ
posts_from first end [] = (first, end)
posts_from first end (entry.Posted id to ∷ entries) = posts_from (if nat_eq first end then id.1 else first) (min (id.1 + 1) (2 ^ 32 - 1)) entries
posts_from first end (e ∷ entries) = posts_from first end entries

-- the letters that were posted: the number of the first, and one more than the number of the last
abbrev pub posts_in : List TraceEntry → ℕ × ℕ
posts_in entries = posts_from 0 0 entries

-- what a PE did, by the first entry
abbrev pub action_in : List TraceEntry → Option Action
action_in (entry.Executed id e ∷ entries) = Some (Executed id e)
action_in (entry.Shelved id ∷ entries) = Some (Shelved id)
action_in (entry.Forwarded id ∷ entries) = Some (Forwarded id)
action_in (entry.Installed e ∷ entries) = Some (Installed e)
action_in (entry.Departed e ∷ entries) = Some (Departed e)
action_in (entry.Resumed e r ∷ entries) = Some (Resumed e r)
action_in entries = None

-- which round was decided, by the first entry
abbrev pub decision_in : List TraceEntry → Option What
decision_in (entry.Decided r ∷ entries) = Some (Decided r)
decision_in entries = None

-- a PE did this
abbrev pub done_by : ℕ → ℕ × ℕ → Action → What
done_by pe posts action = Done pe action posts.0 posts.1

-- what happened in an event
abbrev pub event_what : Event → List TraceEntry → Option What
event_what event.Decide entries = decision_in entries
event_what (event.Report p) entries = Some (done_by p (posts_in entries) Reported)
event_what (event.Start p e) entries = Some (done_by p (posts_in entries) (Started e))
event_what (event.Look p) entries = option_map (done_by p (posts_in entries)) (action_in entries)
event_what (event.Flush p) entries = option_map (done_by p (posts_in entries)) (action_in entries)
event_what (event.Deliver p) entries = option_map (done_by p (posts_in entries)) (action_in entries)
event_what (event.Act p) entries = option_map (done_by p (posts_in entries)) (action_in entries)
event_what (event.Depart p e) entries = option_map (done_by p (posts_in entries)) (action_in entries)
event_what (event.Resume p e) entries = option_map (done_by p (posts_in entries)) (action_in entries)

-- what happened in an event, with its time
abbrev pub event_happening : Event → List TraceEntry → ℕ → Option Happening
event_happening event entries n = option_map (λ what. record { at = min (n * 1000) (2 ^ 64 - 1); duration = 1000; what = what }) (event_what event entries)

-- an event with its trace entries
abbrev pub Made : Type 0
Made = Event × List TraceEntry

-- what happened, if something did
abbrev pub listed : Option Happening → List Happening
listed None = []
listed (Some happening) = happening ∷ []

-- what happened in these steps, of which the first has this number
abbrev pub happenings_from : ℕ → List Made → List Happening
happenings_from n [] = []
happenings_from n (step ∷ steps) = listed (event_happening step.0 step.1 n) ++ happenings_from (n + 1) steps
