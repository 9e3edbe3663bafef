use Rattle.std.proofs.Common.{rules}
use Rattle.pe_worker.proofs.Keeping.{keeps_received, keeps_executed}
use Rattle.pe_state.specs.Refusals.{RefusesStep}
use Rattle.pe_state.proofs.Keeping.{same_error}
use Rattle.pe_worker.specs.Causes.{MayRefuse}
use Rattle.pe_worker.proofs.Causes.{arrival_cause}
use Rattle.pe_worker.proofs.seated.SeatedPe.try_deliver_and_act.Goals as goal

pub invariant_of-self-in_err-acted : goal.invariant_of-self-in_err-acted
invariant_of-self-in_err-acted g c = rw (c.in_err-acted.ensures.err, c.in-Some.ensures.some)
    (keeps_received g.C.Chare.step g.C.Pup.fits g.C.Pup.pack g.C.Pup.unpack g.H.Openings.opened g.H.Openings.pes g.J.RunBeginning.beginning
    c.self.inside.pe c.self.inside.seat c.self.invariant c.known.ensures.keyed c.known.ensures.histories c.me-me.result c.in-Some.parcel
    (search rules) (search rules))

pub invariant_of-self-2 : goal.invariant_of-self-2
invariant_of-self-2 g c = rw c.in-Some.ensures.some
    (keeps_executed g.C.Chare.step g.C.Pup.fits g.C.Pup.pack g.C.Pup.unpack g.H.Openings.opened g.H.Openings.pes g.J.RunBeginning.beginning
    c.self.inside.pe c.self.inside.seat c.self.invariant c.known.ensures.keyed c.known.ensures.histories c.me-me.result c.in-Some.parcel
    (search rules) (search rules) _ c.in_ok-acted.acted c.in_ok-acted.ensures.acted c.in_ok-acted.ensures.ok)

pub returns-in_err-acted-clause-cause : goal.returns-in_err-acted-clause-cause
returns-in_err-acted-clause-cause g c = same_error
    (RefusesStep (MayRefuse g.C.Chare.step g.C.Pup.pack g.C.Chare.refuses g.H.Openings.opened)) _ _ c.from_residual.ensures.1
    (arrival_cause g.C.Chare.step g.C.Pup.fits g.C.Pup.pack g.C.Chare.refuses g.H.Openings.opened c.self.inside.pe c.in-Some.parcel _
    c.known.ensures.histories c.in_err-acted.ensures.refused)
