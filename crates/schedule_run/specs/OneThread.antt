-- What a workload's run on one thread left, and what is written of it.
use Rattle.std.specs.Prelude.{◌≡◌, ℕ, List, Option, None, Some, Result}
use Rattle.sync_board.specs.declared.strategy.Strategy.{Strategy}
use Rattle.pup_pack.specs.declared.error.PupError.{PupError}
use Rattle.rts_core.specs.Worlds.{opening_world}
use Rattle.rts_core.specs.declared.event.Event.{Event}
use Rattle.run_text.specs.Text.{outcome_text}
use Rattle.courses.specs.Courses.{CourseView, Leads}
use Rattle.schedules.specs.Courses.{ExploredView, IsExplored}
use Rattle.schedules.specs.Endings.{EndsList, EndsRun}
use Rattle.schedules.specs.Replays.{StopsAt}
use Rattle.schedules.specs.Schedules.{no_bias}
use Rattle.schedules.specs.declared.error.ReplayError.{ReplayError}
use Rattle.schedules.specs.declared.error.ReplayError.TheVariants as Ends
use Rattle.schedules.specs.declared.schedule.Schedule.{Schedule}
use Rattle.tally.specs.Tallies.{TallyRefuses, TallyView, tally_pack, tally_step}
use Rattle.workload.specs.Text.{WorkloadView}
use Rattle.workload_run.specs.Lines.{memory_line}
use Rattle.workload_run.specs.Tallies.{tallies_of}
use Rattle.workload_run.specs.Telling.{TellsOutcome, WritesText}
use Rattle.workload_run.specs.declared.ended.RunEnd.{RunEnd}
use Rattle.workload_run.specs.declared.ended.RunEnd.TheVariants.{OutOfMemory}

-- the tally that bytes unpack to
abbrev pub Unpack : Type 0
Unpack = List ℕ → Result (TallyView × ℕ) PupError

-- the schedule of such a run by a seed: no bias, and as many events as a number of 64 bits can say
abbrev pub unlimited : ℕ → Strategy → Schedule
unlimited pes strategy = record { pes = pes; strategy = strategy; steps = 18446744073709551615; bias = no_bias }

-- how a run by a seed ended, and how one by a list of events did
module _ {A : Type 0} (unpack : Unpack) where
  abbrev pub EndsBySeed : ExploredView TallyView A → Type 0
  EndsBySeed x = EndsRun tally_step tally_pack TallyRefuses unpack 18446744073709551615 x

  abbrev pub EndsByList : ExploredView TallyView A → Type 0
  EndsByList x = EndsList tally_step tally_pack TallyRefuses unpack x

module _ {A : Type 0} (fits : TallyView → Type 0) (unpack : Unpack) (Ended : ExploredView TallyView A → Type 0) where
  -- what the tallies of a workload left on one thread, with rounds by this strategy, and that it ended so
  abbrev pub IsRunOnOne : WorkloadView → Strategy → ExploredView TallyView A → Type 0
  IsRunOnOne w strategy x = IsExplored tally_step fits tally_pack unpack (tallies_of w) w.pes strategy x × Ended x

  -- what was written of that: the text of its outcome; without an outcome the line for refused memory; or a prefix of one
  -- of these
  abbrev pub EndsOnOne : WorkloadView → Strategy → Option (List ℕ) → Option (List ℕ) → Option (ExploredView TallyView A) → RunEnd → Type 0
  EndsOnOne w strategy old new (Some x) ended =
      IsRunOnOne w strategy x × TellsOutcome (outcome_text w.chares x.outcome) old new x.outcome.fault ended
  EndsOnOne w strategy old new None ended = WritesText memory_line OutOfMemory old new ended

module _ (A : Type 0) (unpack : Unpack) where
  -- The event with this index in a list is not enabled: the events before it lead to a world where it is not.
  abbrev pub StopsRun : WorkloadView → Strategy → List Event → ℕ → Type 0
  StopsRun w strategy events at =
      (course : CourseView TallyView A)
      × Leads tally_step tally_pack unpack (opening_world w.pes (tallies_of w) course.strategy) course.steps course.world
      × (course.strategy ≡ strategy) × StopsAt tally_step tally_pack unpack events course at

  -- a list of events is not repeated: memory was refused, or an event is not enabled
  abbrev pub RefusesRun : WorkloadView → Strategy → List Event → ReplayError → Type 0
  RefusesRun w strategy events (Ends.Config setting) = ⊥
  RefusesRun w strategy events Ends.OutOfMemory = Unit {0}
  RefusesRun w strategy events (Ends.NotEnabled at) = StopsRun w strategy events at
