use Rattle.overtaking_laws.proofs.FreeChase.{free_chase}
use Rattle.overtaking_laws.proofs.letters.free_chase_law.Goals as goal

pub returns : goal.returns
returns g c =
    record {
      chase = λ pes chares strategy steps last some run. free_chase g.C.Chare.step g.C.Pup.pack g.C.Pup.unpack pes chares strategy some steps last run;
    }
