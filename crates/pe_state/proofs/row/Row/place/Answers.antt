use Rattle.std.proofs.Common.{ℕ, List, length, ap, sym, subst, ◌∙◌, arith}
use Rattle.chare_index.specs.declared.limits.TheConstants.Limits.{ELEMENTS}
use Rattle.chares.specs.Elements.{ElementView, opening_element}
use Rattle.pe_state.specs.Rows.{IsWithin}
use Rattle.pe_state.proofs.Places.{no_place, insert_is, within_joined}
use Rattle.pe_state.proofs.row.Row.place.Goals as goal

pub unreachable-requires : goal.unreachable-requires
unreachable-requires g c = no_place _ c.requires.lacks c.in_default.ensures.hit.stands

pub insert-requires : goal.insert-requires
insert-requires g c = let n = c.in-Err.ensures.gap.inside in let l = ap length c.self.view_is in omega (arith, n, l)

pub invariant_of-self-2 : goal.invariant_of-self-2
invariant_of-self-2 g c =
    let w : IsWithin 0 ELEMENTS c.args.self.now = subst (λ (r : List (ℕ × ElementView g.row.C.Denot)). IsWithin 0 ELEMENTS r) c.self.view_is c.self.invariant in
    let is = c.in-Ok.ensures.items ∙ insert_is c.in-Err.ensures.gap c.self.inside.items.items c.self.view_is c.get.result
    c.get.ensures.value c.new.result (opening_element c.args.index c.args.chare) c.new.ensures.value in
    subst (λ (r : List (ℕ × ElementView g.row.C.Denot)). IsWithin 0 ELEMENTS r) (sym is)
    (within_joined 0 ELEMENTS c.args.index (opening_element c.args.index c.args.chare) c.args.self.now (omega arith) c.get.ensures.in_range w)

pub returns-clause-ok : goal.returns-clause-ok
returns-clause-ok g c = c.in-Ok.ensures.items ∙ insert_is c.in-Err.ensures.gap c.self.inside.items.items c.self.view_is c.get.result
    c.get.ensures.value c.new.result (opening_element c.args.index c.args.chare) c.new.ensures.value
