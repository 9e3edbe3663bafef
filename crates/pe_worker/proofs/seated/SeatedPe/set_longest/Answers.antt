use Rattle.pe_worker.proofs.Keeping.{keeps_longest}
use Rattle.pe_worker.proofs.seated.SeatedPe.set_longest.Goals as goal

pub invariant_of-self : goal.invariant_of-self
invariant_of-self g c = rw c.set_longest.ensures.ok (keeps_longest g.C.Chare.step g.H.Openings.opened g.H.Openings.pes
    g.J.RunBeginning.beginning c.self.inside.pe c.self.inside.seat c.args.longest c.self.invariant)
