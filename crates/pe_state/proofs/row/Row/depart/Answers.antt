use Rattle.std.proofs.Common.{◌≡◌, ℕ, List, Option, Some, length, get_or, ap, sym, subst, ◌∙◌, arith}
use Rattle.std.specs.Prelude.{IfSome}
use Rattle.std.specs.List.{remove}
use Rattle.std.specs.Option.{option_map}
use Rattle.chare_index.specs.declared.limits.TheConstants.Limits.{ELEMENTS}
use Rattle.chares.specs.Elements.{ElementView, packed}
use Rattle.pe_state.specs.Rows.{IsWithin}
use Rattle.pe_state.proofs.Places.{no_place, here_is, within_without}
use Rattle.pe_state.proofs.row.Row.depart.Goals as goal

pub unreachable-requires : goal.unreachable-requires
unreachable-requires g c = no_place _ c.in_default.ensures.gap.lacks c.requires.stands

pub index-requires : goal.index-requires
index-requires g c = let n = c.in-Ok.ensures.hit.inside in let l = ap length c.self.view_is in omega (arith, n, l)

pub remove-element-requires : goal.remove-element-requires
remove-element-requires g c = let n = c.in-Ok.ensures.hit.inside in let l = ap length c.self.view_is in omega (arith, n, l)

pub close-requires : goal.close-requires
close-requires g c =
    let read = c.index.ensures ∙ ap (λ r. get_or r c.in-Ok.place c.index.result.now) c.self.view_is in
    let taken = c.remove-element.ensures.value ∙ ap (λ r. get_or r c.in-Ok.place c.remove-element.result) c.self.view_is in
    let same = sym (here_is c.in-Ok.ensures.hit read) ∙ here_is c.in-Ok.ensures.hit taken in
    record { pack = subst (λ (o : Option (ElementView g.row.C.Denot)). IfSome o (λ el. c.in_ok-packing.packing ≡ g.C.Pup.pack el.chare)) same c.in_ok-packing.ensures.pack }

pub returns-clause-value : goal.returns-clause-value
returns-clause-value g c =
    let read = c.remove-element.ensures.value ∙ ap (λ r. get_or r c.in-Ok.place c.remove-element.result) c.self.view_is in
    ap (option_map (packed g.C.Pup.pack)) (here_is c.in-Ok.ensures.hit read) ∙ ap Some (sym c.close.ensures.value)

pub returns-clause-fits : goal.returns-clause-fits
returns-clause-fits g c =
    let read = c.index.ensures ∙ ap (λ r. get_or r c.in-Ok.place c.index.result.now) c.self.view_is in
    subst (λ (o : Option (ElementView g.row.C.Denot)). IfSome o (λ el. g.C.Pup.fits el.chare)) (sym (here_is c.in-Ok.ensures.hit read)) c.in_ok-packing.ensures.value

pub invariant_of-self : goal.invariant_of-self
invariant_of-self g c =
    let w : IsWithin 0 ELEMENTS c.args.self.now = subst (λ (r : List (ℕ × ElementView g.row.C.Denot)). IsWithin 0 ELEMENTS r) c.self.view_is c.self.invariant in
    let is = c.remove-element.ensures.items ∙ ap (λ r. remove r c.in-Ok.place) c.self.view_is ∙ c.in-Ok.ensures.hit.removed in
    subst (λ (r : List (ℕ × ElementView g.row.C.Denot)). IsWithin 0 ELEMENTS r) (sym is) (within_without 0 ELEMENTS c.args.index c.args.self.now w)

pub returns-clause-ok : goal.returns-clause-ok
returns-clause-ok g c = c.give_back.ensures.same ∙ c.remove-element.ensures.items ∙ ap (λ r. remove r c.in-Ok.place) c.self.view_is ∙ c.in-Ok.ensures.hit.removed
