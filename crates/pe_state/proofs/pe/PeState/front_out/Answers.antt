use Rattle.std.proofs.Common.{◌∙◌, ap, arith, refl}
use Rattle.pe_state.specs.Pes.{front_address}
use Rattle.pe_state.proofs.Below.{front_below}
use Rattle.pe_state.proofs.Fronts.{front_address_is, none_addressed}
use Rattle.pe_state.proofs.Keeping.{outbox_below}
use Rattle.pe_state.proofs.pe.PeState.front_out.Goals as goal

pub returns-clause-below : goal.returns-clause-below
returns-clause-below g c = front_below g.H.Openings.pes c.outbox.result.now.items c.in_ok-front.front.now c.in_ok-front.ensures.lookup
    (omega (arith, c.in_ok-front.ensures.variant.0 refl)) (outbox_below _ _ _ c.outbox.ensures.value c.self.invariant.1.outbox)

pub returns-clause-value : goal.returns-clause-value
returns-clause-value g c =
    front_address_is c.outbox.result.now.items c.in_ok-front.front.now c.in_ok-front.ensures.lookup
    (omega (arith, c.in_ok-front.ensures.variant.0 refl)) ∙ ap front_address c.outbox.ensures.value ∙ ap (λ p. front_address p.outbox) c.self.view_is

pub returns-in_err-front-clause-value : goal.returns-in_err-front-clause-value
returns-in_err-front-clause-value g c =
    c.from_residual.ensures ∙ none_addressed c.outbox.result.now.items (λ some. c.in_err-front.ensures.variant.1 (omega (arith, some)))
    ∙ ap front_address c.outbox.ensures.value ∙ ap (λ p. front_address p.outbox) c.self.view_is

pub returns-in_err-front-clause-below : goal.returns-in_err-front-clause-below
returns-in_err-front-clause-below g c = rw c.from_residual.ensures tt
