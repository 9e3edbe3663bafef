use Rattle.pe_worker.proofs.Keeping.{keeps_looked}
use Rattle.pe_worker.proofs.seated.SeatedPe.look.Goals as goal

pub invariant_of-self : goal.invariant_of-self
invariant_of-self g c = rw c.look-2.ensures.ok (keeps_looked g.C.Chare.step g.C.Pup.fits g.C.Pup.pack g.C.Pup.unpack g.H.Openings.opened
    g.H.Openings.pes g.J.RunBeginning.beginning c.self.inside.pe c.self.inside.seat c.self.invariant c.known.ensures.keyed
    c.known.ensures.histories c.look.result)
