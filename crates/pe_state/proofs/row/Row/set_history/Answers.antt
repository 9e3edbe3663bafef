use Rattle.std.proofs.Common.{ℕ, List, Some, length, get_or, ap, sym, subst, ◌∙◌, arith}
use Rattle.chare_index.specs.declared.limits.TheConstants.Limits.{ELEMENTS}
use Rattle.chares.specs.Elements.{ElementView}
use Rattle.pe_state.specs.Rows.{IsWithin}
use Rattle.pe_state.proofs.Places.{here_is, edit_is, within_changed}
use Rattle.std.proofs.lemmas.Map.Steps.{set_value_same}
use Rattle.pe_state.proofs.row.Row.set_history.Goals as goal

pub index_mut-requires : goal.index_mut-requires
index_mut-requires g c = let n = c.in-Ok.ensures.hit.inside in let l = ap length c.self.view_is in omega (arith, n, l)

pub invariant_of-self : goal.invariant_of-self
invariant_of-self g c =
    let w : IsWithin 0 ELEMENTS c.args.self.now = subst (λ (r : List (ℕ × ElementView g.row.C.Denot)). IsWithin 0 ELEMENTS r) c.self.view_is c.self.invariant in
    let at = c.in-Ok.ensures.hit in
    let read = c.index_mut.ensures.value ∙ ap (λ r. get_or r c.in-Ok.place c.index_mut.result.now) c.self.view_is in
    subst (λ (r : List (ℕ × ElementView g.row.C.Denot)). IsWithin 0 ELEMENTS r)
    (sym (edit_is at read c.self.inside.items.items c.self.view_is c.set_history.new.self))
    (within_changed 0 ELEMENTS c.args.index c.set_history.new.self c.args.self.now w)

pub returns : goal.returns
returns g c =
    let at = c.in-Ok.ensures.hit in
    let read = c.index_mut.ensures.value ∙ ap (λ r. get_or r c.in-Ok.place c.index_mut.result.now) c.self.view_is in
    let here = here_is at read in
    let set_is = edit_is at read c.self.inside.items.items c.self.view_is c.set_history.new.self in
    record { same = set_is ∙ set_value_same _ c.args.self.now c.set_history.new.self (here ∙ ap Some (sym c.set_history.ensures.same)) }
