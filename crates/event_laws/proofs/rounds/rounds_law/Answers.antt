use Rattle.event_laws.proofs.RoundEnds.{phase_once}
use Rattle.chares.proofs.Orders.{in_order_ran}
use Rattle.event_laws.proofs.Phases.{phase}
use Rattle.event_laws.proofs.rounds.rounds_law.Goals as goal

-- src/rounds.rt:20:1
pub returns-clause-phase : goal.returns-clause-phase
returns-clause-phase g c = λ opened el is e round load bytes pe has. phase g.C.Chare.step g.C.Pup.pack opened el is is.in_order e round load bytes pe has

-- src/rounds.rt:20:1
pub returns-clause-once : goal.returns-clause-once
returns-clause-once g c = λ opened el is chare opens round load bytes other_load other_bytes x y. phase_once g.C.Chare.step g.C.Pup.pack
    opened el is is.in_order chare opens round load bytes other_load other_bytes x y

-- src/rounds.rt:20:1
pub returns-clause-handled : goal.returns-clause-handled
returns-clause-handled g c = λ el n pe done is may. in_order_ran g.C.Chare.step g.C.Pup.pack el n pe done is may
