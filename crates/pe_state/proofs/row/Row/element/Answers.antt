use Rattle.std.proofs.Common.{get_or, ap, sym, ◌∙◌}
use Rattle.pe_state.proofs.Places.{here_is}
use Rattle.pe_state.proofs.row.Row.element.Goals as goal

pub returns-in_default : goal.returns-in_default
returns-in_default g c = record { value = sym c.in_default.ensures.gap.lacks }

pub returns : goal.returns
returns g c =
    let read = c.index.ensures ∙ ap (λ r. get_or r c.in-Ok.place c.index.result.now) c.self.view_is in
    record { value = sym (here_is c.in-Ok.ensures.hit read) }
