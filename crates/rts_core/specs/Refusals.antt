-- When an event is refused, and why.
use Rattle.std.specs.Prelude.{◌≡◌, ℕ, List, IsSome, MatchOption, Result, slice_get}
use Rattle.chare_index.specs.declared.limits.TheConstants.Limits.{ROUND}
use Rattle.lb_database.specs.Measuring.{Measured, IsComplete}
use Rattle.lb_database.specs.Refusals.{HasNextRound}
use Rattle.chares.specs.Steps.{Step}
use Rattle.pe_state.specs.declared.error.StepError.{StepError}
use Rattle.pe_state.specs.declared.error.StepError.TheVariants.{OutOfMemory, Worn}
use Rattle.pe_state.specs.Pes.{PeView, acting}
use Rattle.chares.specs.Elements.{Refuses}
use Rattle.pe_state.specs.Refusals.{RefusesStep, RefusesAct, RefusesResume}
use Rattle.pup_pack.specs.declared.error.PupError.{PupError}
use Rattle.sync_board.specs.Boards.{BoardState}
use Rattle.rts_core.specs.Events.{LocalView, start_event, flush_event, due, depart_event, resume_event, pe_of, local_view}
use Rattle.rts_core.specs.Worlds.{WorldView}
use Rattle.rts_core.specs.declared.event.Event.{Event}
use Rattle.rts_core.specs.declared.event.Event.TheVariants.{Start, Look, Flush, Deliver, Act, Report, Decide, Depart, Resume}

-- a decision is refused in the last round, or where memory is refused
abbrev pub RefusesDecide : Measured → StepError → Type 0
RefusesDecide m OutOfMemory = HasNextRound m
RefusesDecide m Worn = IsComplete m × (m.round ≡ ROUND)
RefusesDecide m _ = ⊥

module _ {C : Type 0} (step : Step C) (pack : C → List ℕ) (refuses : Refuses C) where
  -- a start that is enabled, and a resumption, are refused where memory is, or with what the handler may return
  abbrev pub RefusesStart : PeView C → ℕ → StepError → Type 0
  RefusesStart pe e error = IsSome (start_event step pack pe e) × RefusesStep (RefusesResume refuses pe e 0) error

  abbrev pub RefusesGoingOn : {A : Type 0} → ℕ → PeView C → BoardState A → ℕ → StepError → Type 0
  RefusesGoingOn p pe b e error =
      IsSome (resume_event step pack p pe b e) × MatchOption (due pe b e) ⊥ (λ at. RefusesStep (RefusesResume refuses pe e at.0) error)

  -- The step of a PE is refused where memory is, or with what a handler may return, only where it is enabled; a report is refused
  -- where a note is owed. (Memory for the trace entry is reserved before the board is asked.)
  abbrev pub RefusesAt : {A : Type 0} → (List ℕ → Result (C × ℕ) PupError) → Event → LocalView C A → StepError → Type 0
  RefusesAt unpack (Start p e) d error = RefusesStart d.pe e error
  RefusesAt unpack (Look p) d error = ⊥
  RefusesAt unpack (Flush p) d error = (error ≡ OutOfMemory) × IsSome (flush_event d.pe d.queues)
  RefusesAt unpack (Deliver p) d error = ⊥
  RefusesAt unpack (Act p) d error = IsSome (acting step pack unpack d.pe) × RefusesStep (RefusesAct refuses d.pe) error
  RefusesAt unpack (Report p) d error = (error ≡ OutOfMemory) × IsSome (slice_get d.pe.notes 0)
  RefusesAt unpack (Depart p e) d error = (error ≡ OutOfMemory) × IsSome (depart_event step pack p d.pe d.words d.board e)
  RefusesAt unpack (Resume p e) d error = RefusesGoingOn p d.pe d.board e error
  RefusesAt unpack Decide d error = ⊥

  -- an event is refused where the step of its PE is, and a decision as above
  abbrev pub RefusesEvent : {A : Type 0} → (List ℕ → Result (C × ℕ) PupError) → WorldView C A → Event → StepError → Type 0
  RefusesEvent unpack w event error =
      MatchOption (pe_of event)
      (RefusesDecide w.board.database error)
      (λ p. MatchOption (slice_get w.pes p) ⊥ (λ pe. RefusesAt unpack event (local_view w pe) error))
