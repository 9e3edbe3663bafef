-- What a run by a list of events leads to.
use Rattle.std.specs.Prelude.{◌≡◌, ℕ, List, ◌∷◌, ◌++◌, length, Option, None, Some, Result}
use Rattle.sync_board.specs.declared.strategy.Strategy.{Strategy}
use Rattle.chares.specs.Steps.{Step}
use Rattle.courses.specs.Courses.{CourseView, IsEnabled, Leads, events_of}
use Rattle.courses.specs.Picks.{PicksUpTo}
use Rattle.pup_pack.specs.declared.error.PupError.{PupError}
use Rattle.rts_core.specs.Worlds.{opening_world}
use Rattle.rts_core.specs.declared.event.Event.{Event}
use Rattle.schedules.specs.Courses.{ExploredView, left_by}
use Rattle.schedules.specs.Schedules.{IsFirstOutside, MayExplore}
use Rattle.schedules.specs.declared.error.ReplayError.{ReplayError}
use Rattle.schedules.specs.declared.error.ReplayError.TheVariants as Ends
use Rattle.schedules.specs.declared.schedule.Schedule.{Schedule}

-- those events of a list have happened: all of them, or those before the one that was refused
abbrev pub FollowsTo : List Event → List Event → Option Event → Type 0
FollowsTo events happened None = events ≡ happened
FollowsTo events happened (Some refused) = (rest : List Event) × (events ≡ happened ++ refused ∷ rest)

abbrev pub Follows : {C A : Type 0} → List Event → ExploredView C A → Type 0
Follows events x = FollowsTo events (events_of x.steps) x.refused

module _ {C A : Type 0} (step : Step C) (pack : C → List ℕ) (unpack : List ℕ → Result (C × ℕ) PupError) where
  -- the event with this index is not enabled in the world to which those before it have led
  abbrev pub StopsAt : List Event → CourseView C A → ℕ → Type 0
  StopsAt events course at =
      (event : Event) × (rest : List Event) × (events ≡ events_of course.steps ++ event ∷ rest)
      × (length course.steps ≡ at) × ¬ (IsEnabled step pack unpack course.world event)

  -- From the opening on, each event of a list that was enabled at its turn has happened, and each that was not was left out: all of
  -- them, or those before the one that was refused.
  abbrev pub PicksFrom : List C → ℕ → Strategy → List Event → ExploredView C A → Type 0
  PicksFrom chares pes strategy events x =
      PicksUpTo step pack unpack (opening_world pes chares strategy) events x.refused x.steps (left_by x)

module _ {C : Type 0} (A : Type 0) (step : Step C) (pack : C → List ℕ) (unpack : List ℕ → Result (C × ℕ) PupError) where
  -- a list of events is not repeated on these chares: a number is out of its limits, or memory was refused, or an event is not
  -- enabled after those before it
  abbrev pub RefusesReplay : List C → Schedule → List Event → ReplayError → Type 0
  RefusesReplay chares schedule events (Ends.Config setting) = IsFirstOutside schedule (length chares) setting
  RefusesReplay chares schedule events Ends.OutOfMemory = MayExplore schedule (length chares)
  RefusesReplay chares schedule events (Ends.NotEnabled at) =
      (course : CourseView C A) × Leads step pack unpack (opening_world schedule.pes chares course.strategy) course.steps course.world
      × (course.strategy ≡ schedule.strategy) × StopsAt step pack unpack events course at
