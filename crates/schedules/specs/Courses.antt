-- What a course of a world left.
use Rattle.std.specs.Prelude.{◌≡◌, ℕ, List, ◌++◌, length, Option, None, Result}
use Rattle.std.specs.Option.{option_to_list}
use Rattle.sync_board.specs.Boards.{HaveFinished}
use Rattle.sync_board.specs.declared.strategy.Strategy.{Strategy}
use Rattle.chares.specs.Steps.{Step}
use Rattle.courses.specs.Courses.{Leads, Made, events_of, trace_of}
use Rattle.lb_database.specs.Measuring.{elements}
use Rattle.pup_pack.specs.declared.error.PupError.{PupError}
use Rattle.rts_core.specs.Accounts.{Accounted, held_count}
use Rattle.rts_core.specs.Histories.{AreHistories}
use Rattle.rts_core.specs.declared.event.Event.{Event}
use Rattle.rts_core.specs.Worlds.{WorldView, opening_words, opening_world}
use Rattle.rts_run.specs.Outcomes.{OutcomeView}

-- What a course left: the outcome, as of a run over threads, the location words of its elements, its steps, and the event that
-- was refused, if there was one.
pub record ExploredView (C A : Type 0) : Type 0 where
  pub outcome : OutcomeView C A
  pub words : List ℕ
  pub steps : List Made
  pub refused : Option Event

-- the events that happened, and the one that was refused
abbrev pub events_tried : {C A : Type 0} → ExploredView C A → List Event
events_tried x = events_of x.steps ++ option_to_list x.refused

-- the world that it left
abbrev pub left_by : {C A : Type 0} → ExploredView C A → WorldView C A
left_by x = record { pes = x.outcome.ends; queues = x.outcome.left; words = x.words; board = x.outcome.board }

-- every element has finished, and no letter is held
abbrev pub IsDone : {C A : Type 0} → WorldView C A → Type 0
IsDone w = HaveFinished w.board × (held_count w ≡ 0)

-- What a run on one thread left that opened with these chares on this number of PEs, whose rounds are decided by this strategy.
-- Its steps lead from the opening to the world that it left, each of them enabled. Each letter that was posted is in one place or
-- was executed once, by its own element, and each element is in one place, and is what its journal says. It opened on its home.
-- Without a fault every element has finished, and no letter is held.
pub record IsExplored {C A : Type 0} (step : Step C) (fits : C → Type 0) (pack : C → List ℕ) (unpack : List ℕ → Result (C × ℕ) PupError)
    (chares : List C) (pes : ℕ) (strategy : Strategy) (x : ExploredView C A) : Type 0 where
  pub led : Leads step pack unpack (opening_world pes chares strategy) x.steps (left_by x)
  pub account : Accounted (length chares) (left_by x) (trace_of x.steps)
  pub histories : AreHistories step fits pack chares (left_by x)
  pub elements : elements x.outcome.board.database ≡ length chares
  pub on_pes : x.outcome.board.pes ≡ pes
  pub homes : x.outcome.homes ≡ opening_words (length chares) pes
  pub done : x.outcome.fault ≡ None → IsDone (left_by x)
