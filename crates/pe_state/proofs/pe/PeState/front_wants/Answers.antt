use Rattle.std.proofs.Common.{◌∙◌, ap, arith, refl}
use Rattle.pe_state.specs.Pes.{PeView, front_wants}
use Rattle.pe_state.proofs.Fronts.{front_wants_is, none_wanted}
use Rattle.pe_state.proofs.pe.PeState.front_wants.Goals as goal

pub returns-in_err-front : goal.returns-in_err-front
returns-in_err-front g c =
    record {
      value =
          c.from_residual.ensures
          ∙ none_wanted c.outbox.result.now.items (λ some. c.in_err-front.ensures.variant.1 (omega (arith, some)))
          ∙ ap front_wants c.outbox.ensures.value
          ∙ ap (λ (p : PeView g.row.C.Denot). front_wants p.outbox) c.self.view_is;
    }

pub returns : goal.returns
returns g c =
    record {
      value =
          c.unaddressed.ensures.value
          ∙ front_wants_is c.outbox.result.now.items c.in_ok-front.front.now c.in_ok-front.ensures.lookup (omega (arith, c.in_ok-front.ensures.variant.0 refl))
          ∙ ap front_wants c.outbox.ensures.value
          ∙ ap (λ (p : PeView g.row.C.Denot). front_wants p.outbox) c.self.view_is;
    }
