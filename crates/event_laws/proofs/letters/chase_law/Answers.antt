use Rattle.event_laws.proofs.Chased.{chased}
use Rattle.event_laws.proofs.letters.chase_law.Goals as goal

-- src/letters.rt:19:1
pub returns : goal.returns
returns g c =
    record {
      chase = λ pes chares strategy events last some run. chased g.C.Chare.step g.C.Pup.pack g.C.Pup.unpack pes chares strategy some events last run;
    }
