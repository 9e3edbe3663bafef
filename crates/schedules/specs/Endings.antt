-- Why a run on one thread ended.
use Rattle.std.specs.Prelude.{◌≡◌, ℕ, List, length, Option, None, Some, Result}
use Rattle.chares.specs.Elements.{Refuses}
use Rattle.chares.specs.Steps.{Step}
use Rattle.courses.specs.Courses.{IsIdle, RefusesTaking}
use Rattle.pe_state.specs.declared.error.StepError.{StepError}
use Rattle.pe_state.specs.declared.error.StepError.TheVariants as Why
use Rattle.pe_worker.specs.declared.fault.Fault.{Fault}
use Rattle.pe_worker.specs.declared.fault.Fault.TheVariants as Ends
use Rattle.pup_pack.specs.declared.error.PupError.{PupError}
use Rattle.rts_core.specs.declared.event.Event.{Event}
use Rattle.rts_core.specs.Worlds.{WorldView}
use Rattle.schedules.specs.Courses.{ExploredView, IsDone, left_by}
use Rattle.schedules.specs.declared.leaving.Ending.{Ending}
use Rattle.schedules.specs.declared.leaving.Ending.TheVariants.{Done, Idle, Stopped, Refused}

-- the fault of a run whose last event was refused for this reason
abbrev pub fault_of : StepError → Fault
fault_of Why.OutOfMemory = Ends.OutOfMemory
fault_of Why.Unpack = Ends.Unpack
fault_of Why.Stranger = Ends.Stranger
fault_of Why.TooLong = Ends.TooLong
fault_of Why.Worn = Ends.Worn

-- the fault of a run that ended in this way, and the event that was refused, if there was one
abbrev pub fault_in : Ending → Option Fault
fault_in Done = None
fault_in Idle = Some Ends.Idle
fault_in Stopped = Some Ends.Stopped
fault_in (Refused refusal) = Some (fault_of refusal.error)

abbrev pub refused_in : Ending → Option Event
refused_in (Refused refusal) = Some refusal.event
refused_in ending = None

module _ {C A : Type 0} (step : Step C) (pack : C → List ℕ) (refuses : Refuses C) (unpack : List ℕ → Result (C × ℕ) PupError) where
  -- A fault has a cause in this event: a handler may return it, that of the very element that the event names or whose letter is
  -- in the hand, from the state that it is in; or the last round was to be decided; or memory was refused.
  abbrev pub IsCause : WorldView C A → Event → Fault → Type 0
  IsCause w event fault = (error : StepError) × (fault ≡ fault_of error) × RefusesTaking step pack refuses unpack w event error

  -- A course ended rightly: it is done; or it is not, and there was no event left, in this sense or in that; or an event was
  -- refused.
  abbrev pub EndsCourse : WorldView C A → Type 0 → Type 0 → Ending → Type 0
  EndsCourse w AtRest AtLast Done = IsDone w
  EndsCourse w AtRest AtLast Idle = ¬ (IsDone w) × AtRest
  EndsCourse w AtRest AtLast Stopped = ¬ (IsDone w) × AtLast
  EndsCourse w AtRest AtLast (Refused refusal) = RefusesTaking step pack refuses unpack w refusal.event refusal.error

  -- a course ended rightly, by the event that was refused, if there was one, and the fault
  abbrev pub EndsBy : WorldView C A → Type 0 → Type 0 → Option Event → Option Fault → Type 0
  EndsBy w AtRest AtLast None None = IsDone w
  EndsBy w AtRest AtLast None (Some Ends.Idle) = ¬ (IsDone w) × AtRest
  EndsBy w AtRest AtLast None (Some Ends.Stopped) = ¬ (IsDone w) × AtLast
  EndsBy w AtRest AtLast None (Some fault) = ⊥
  EndsBy w AtRest AtLast (Some event) None = ⊥
  EndsBy w AtRest AtLast (Some event) (Some fault) = IsCause w event fault

  -- A run by a seed ended rightly. Without a fault every element has finished, and no letter is held. It is idle only where that
  -- is not so and no event at all is enabled, and stopped only where it is not so and as many events have happened as may. Every
  -- other fault has its cause in the event that was refused, in the world that the run left.
  abbrev pub EndsRun : ℕ → ExploredView C A → Type 0
  EndsRun limit x = EndsBy (left_by x) (IsIdle step pack unpack (left_by x)) (length x.steps ≡ limit) x.refused x.outcome.fault

  -- A run by a list of events ended rightly, as a run by a seed does, except that it is never idle.
  abbrev pub EndsList : ExploredView C A → Type 0
  EndsList x = EndsBy (left_by x) ⊥ (Unit {0}) x.refused x.outcome.fault
