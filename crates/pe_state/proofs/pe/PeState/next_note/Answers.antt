use Rattle.std.proofs.Common.{◌∙◌, slice_get, ap, arith, refl}
use Rattle.pe_state.proofs.Fronts.{first_is, none_first}
use Rattle.pe_state.proofs.pe.PeState.next_note.Goals as goal

pub returns : goal.returns
returns g c =
    record {
      value = first_is c.notes.result.now.items c.in_ok-note.note.now c.in_ok-note.ensures.lookup
          (omega (arith, c.in_ok-note.ensures.variant.0 refl)) ∙ ap (λ xs. slice_get xs 0) c.notes.ensures.value ∙ ap (λ p. slice_get p.notes 0) c.self.view_is;
    }

pub returns-in_err-note : goal.returns-in_err-note
returns-in_err-note g c =
    record {
      value = c.from_residual.ensures ∙ none_first c.notes.result.now.items
          (λ some. c.in_err-note.ensures.variant.1 (omega (arith, some))) ∙ ap (λ xs. slice_get xs 0) c.notes.ensures.value
          ∙ ap (λ p. slice_get p.notes 0) c.self.view_is;
    }
