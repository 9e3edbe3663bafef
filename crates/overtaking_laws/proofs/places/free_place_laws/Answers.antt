use Rattle.std.specs.Prelude.{length}
use Rattle.event_laws.proofs.Arrivals.{arrive_alone}
use Rattle.event_laws.proofs.ReachedPlaces.{alone, named}
use Rattle.overtaking_laws.proofs.FreePlaces.{free_placed}
use Rattle.overtaking_laws.proofs.places.free_place_laws.Goals as goal

pub returns-clause-alone : goal.returns-clause-alone
returns-clause-alone g c = λ pes chares strategy steps last some run. alone (length chares) last.0
    (free_placed g.C.Chare.step g.C.Pup.pack g.C.Pup.unpack pes chares strategy some steps last run)

pub returns-clause-arrivals : goal.returns-clause-arrivals
returns-clause-arrivals g c = λ pes chares strategy steps last some run. arrive_alone last.0
    (alone (length chares) last.0 (free_placed g.C.Chare.step g.C.Pup.pack g.C.Pup.unpack pes chares strategy some steps last run))

pub returns-clause-words : goal.returns-clause-words
returns-clause-words g c = λ pes chares strategy steps last some run. named (length chares) last.0
    (free_placed g.C.Chare.step g.C.Pup.pack g.C.Pup.unpack pes chares strategy some steps last run)
