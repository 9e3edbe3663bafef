use Rattle.overtaking_laws.proofs.StampedHops.{chase_of}
use Rattle.overtaking_laws.proofs.stamped.stamped_chase_law.Goals as goal

pub returns : goal.returns
returns g c =
    record { chase = λ pes chares strategy steps last some run. chase_of g.C.Chare.step g.C.Pup.pack g.C.Pup.unpack pes chares strategy steps last run }
