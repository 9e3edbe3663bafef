use Rattle.event_laws.proofs.Arrivals.{arrive_alone}
use Rattle.overtaking_laws.proofs.StalePlaces.{stale_alone}
use Rattle.overtaking_laws.proofs.places.stale_place_laws.Goals as goal

pub returns-clause-alone : goal.returns-clause-alone
returns-clause-alone g c = λ pes chares strategy steps last some run.
    stale_alone g.C.Chare.step g.C.Pup.pack g.C.Pup.unpack pes chares strategy some steps last run

pub returns-clause-arrivals : goal.returns-clause-arrivals
returns-clause-arrivals g c = λ pes chares strategy steps last some run.
    arrive_alone last.0 (stale_alone g.C.Chare.step g.C.Pup.pack g.C.Pup.unpack pes chares strategy some steps last run)
