use Rattle.event_laws.proofs.Arrivals.{arrive_alone}
use Rattle.event_laws.proofs.ReachedPlaces.{reached_alone, reached_named}
use Rattle.event_laws.proofs.places.place_laws.Goals as goal

-- src/places.rt:17:1
pub returns-clause-alone : goal.returns-clause-alone
returns-clause-alone g c = λ pes chares strategy events last some run. reached_alone g.C.Chare.step g.C.Pup.pack g.C.Pup.unpack pes chares strategy some events last run

-- src/places.rt:17:1
pub returns-clause-words : goal.returns-clause-words
returns-clause-words g c = λ pes chares strategy events last some run. reached_named g.C.Chare.step g.C.Pup.pack g.C.Pup.unpack pes chares strategy some events last run

pub returns-clause-arrivals : goal.returns-clause-arrivals
returns-clause-arrivals g c = λ pes chares strategy events last some run. arrive_alone last.0
    (reached_alone g.C.Chare.step g.C.Pup.pack g.C.Pup.unpack pes chares strategy some events last run)
