use Rattle.pe_worker.proofs.Keeping.{keeps_resumed}
use Rattle.pe_state.specs.Refusals.{RefusesStep}
use Rattle.pe_state.proofs.Keeping.{same_error}
use Rattle.pe_worker.specs.Causes.{MayRefuse}
use Rattle.pe_worker.proofs.Causes.{resume_cause}
use Rattle.pe_worker.proofs.seated.SeatedPe.start.Goals as goal

pub invariant_of-self-2 : goal.invariant_of-self-2
invariant_of-self-2 g c = rw c.in_ok-resume.ensures.ok
    (keeps_resumed g.C.Chare.step g.C.Pup.fits g.C.Pup.pack g.C.Pup.unpack g.H.Openings.opened g.H.Openings.pes g.J.RunBeginning.beginning
    c.self.inside.pe c.self.inside.seat c.self.invariant c.known.ensures.keyed c.known.ensures.histories c.args.element c.unwrap-start.result)

pub returns-in_err-resume-clause-cause : goal.returns-in_err-resume-clause-cause
returns-in_err-resume-clause-cause g c = same_error
    (RefusesStep (MayRefuse g.C.Chare.step g.C.Pup.pack g.C.Chare.refuses g.H.Openings.opened)) _ _ c.from_residual.ensures.1
    (resume_cause g.C.Chare.step g.C.Pup.fits g.C.Pup.pack g.C.Chare.refuses g.H.Openings.opened c.self.inside.pe c.args.element
    c.unwrap-start.result _ c.known.ensures.histories c.in_err-resume.ensures.refused)
