-- Runs that are shrunk.
use Rattle.std.specs.Prelude.{◌≡◌, ◌⊎◌, ℕ, List, Bool, false, Some, Result}
use Rattle.sync_board.specs.declared.strategy.Strategy.{Strategy}
use Rattle.chares.specs.Elements.{Refuses}
use Rattle.chares.specs.Steps.{Step}
use Rattle.pe_worker.specs.declared.fault.Fault.TheVariants as Ends
use Rattle.pup_pack.specs.declared.error.PupError.{PupError}
use Rattle.rts_core.specs.declared.event.Event.{Event}
use Rattle.rts_run.specs.declared.error.RunError.{RunError}
use Rattle.rts_run.specs.declared.error.RunError.TheVariants as Why
use Rattle.schedules.specs.Courses.{ExploredView, IsExplored}
use Rattle.schedules.specs.Endings.{EndsList}
use Rattle.schedules.specs.Replays.{PicksFrom}
use Rattle.schedules.specs.Schedules.{RefusesSchedule}
use Rattle.schedules.specs.declared.schedule.Schedule.{Schedule}

-- a run ended because memory was refused
abbrev pub IsCutOff : {C A : Type 0} → ExploredView C A → Type 0
IsCutOff x = x.outcome.fault ≡ Some Ends.OutOfMemory

-- no run of n elements was found, nor was it shown that there is none: a number is out of its limits, or memory was refused, be it
-- in a run that was tried
abbrev pub RefusesShrinking : Schedule → ℕ → RunError → Type 0
RefusesShrinking schedule n error = (error ≡ Why.OutOfMemory) ⊎ RefusesSchedule schedule n error

module _ {C A : Type 0} (step : Step C) (fits : C → Type 0) (pack : C → List ℕ) (refuses : Refuses C) (unpack : List ℕ → Result (C × ℕ) PupError)
    (chares : List C) (pes : ℕ) (strategy : Strategy) where
  -- what a run by a list of events left that ended rightly, and not because memory was refused
  pub record IsWhole (x : ExploredView C A) : Type 0 where
    pub explored : IsExplored step fits pack unpack chares pes strategy x
    pub ends : EndsList step pack refuses unpack x
    pub whole : ¬ (IsCutOff x)

  -- A run by those of these events that are enabled, each at its turn, is not bad.
  abbrev pub IsWell : (ExploredView C A → Bool) → List Event → Type 0
  IsWell is_bad events =
      (x : ExploredView C A) × IsWhole x × PicksFrom step pack unpack chares pes strategy events x × (is_bad x ≡ false)
