use Rattle.std.proofs.Common.{ℕ, List, length, get_or, ap, sym, subst, ◌∙◌, arith}
use Rattle.std.specs.List.{remove}
use Rattle.chare_index.specs.declared.limits.TheConstants.Limits.{ELEMENTS}
use Rattle.chares.specs.Elements.{ElementView}
use Rattle.pe_state.specs.Rows.{IsWithin}
use Rattle.pe_state.proofs.Places.{here_is, within_without}
use Rattle.pe_state.proofs.Taking.{without_none}
use Rattle.pe_state.proofs.row.Row.take.Goals as goal

pub returns-in_default : goal.returns-in_default
returns-in_default g c =
    record {
      value = sym c.in_default.ensures.gap.lacks;
      left = sym (without_none c.args.index c.args.self.now c.in_default.ensures.gap.lacks);
    }

pub remove-element-requires : goal.remove-element-requires
remove-element-requires g c = let n = c.in-Ok.ensures.hit.inside in let l = ap length c.self.view_is in omega (arith, n, l)

pub invariant_of-self : goal.invariant_of-self
invariant_of-self g c =
    let w : IsWithin 0 ELEMENTS c.args.self.now = subst (λ (r : List (ℕ × ElementView g.row.C.Denot)). IsWithin 0 ELEMENTS r) c.self.view_is c.self.invariant in
    let is = c.remove-element.ensures.items ∙ ap (λ r. remove r c.in-Ok.place) c.self.view_is ∙ c.in-Ok.ensures.hit.removed in
    subst (λ (r : List (ℕ × ElementView g.row.C.Denot)). IsWithin 0 ELEMENTS r) (sym is) (within_without 0 ELEMENTS c.args.index c.args.self.now w)

pub returns : goal.returns
returns g c =
    let read = c.remove-element.ensures.value ∙ ap (λ r. get_or r c.in-Ok.place c.remove-element.result) c.self.view_is in
    record {
      value = sym (here_is c.in-Ok.ensures.hit read);
      left = c.remove-element.ensures.items ∙ ap (λ r. remove r c.in-Ok.place) c.self.view_is ∙ c.in-Ok.ensures.hit.removed;
    }
