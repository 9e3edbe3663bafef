use Rattle.pe_worker.proofs.Keeping.{keeps_after}
use Rattle.pe_worker.proofs.Causes.{act_cause}
use Rattle.pe_worker.proofs.seated.SeatedPe.act.Goals as goal

pub invariant_of-self : goal.invariant_of-self
invariant_of-self g c = keeps_after g.C.Chare.step g.C.Pup.fits g.C.Pup.pack g.C.Pup.unpack g.H.Openings.opened g.H.Openings.pes
    g.J.RunBeginning.beginning c.self.inside.pe c.self.inside.seat c.self.invariant c.known.ensures.keyed c.known.ensures.histories
    c.act.new.self c.act.result c.act.ensures.acts.ok c.act.ensures.acts.err

pub returns-clause-cause : goal.returns-clause-cause
returns-clause-cause g c = act_cause g.C.Chare.step g.C.Pup.fits g.C.Pup.pack g.C.Chare.refuses g.H.Openings.opened c.self.inside.pe
    c.act.result c.known.ensures.histories c.act.ensures.refused
