use Rattle.overtaking_laws.proofs.StampedStale.{stamped_is_stale}
use Rattle.overtaking_laws.proofs.stamped.stamped_copy_law.Goals as goal

pub returns : goal.returns
returns g c =
    record { stale = λ pes chares strategy steps last some run words. stamped_is_stale g.C.Chare.step g.C.Pup.pack g.C.Pup.unpack pes chares strategy steps last run words }
