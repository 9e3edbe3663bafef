use Rattle.std.proofs.Common.{◌≡◌, ℕ, List, Option, Some, length, ◌<◌, get_or, ap, sym, subst, ◌∙◌, arith}
use Rattle.std.specs.Prelude.{IfSome}
use Rattle.std.proofs.lemmas.Result.{on_ok_weaker, on_err_weaker}
use Rattle.chare_index.specs.declared.limits.TheConstants.Limits.{ELEMENTS}
use Rattle.chares.specs.Elements.{ElementView}
use Rattle.pe_state.specs.Rooms.{changed}
use Rattle.pe_state.specs.Rows.{IsWithin}
use Rattle.pe_state.proofs.Places.{no_place, here_is, edit_is, within_changed}
use Rattle.std.proofs.lemmas.Map.Steps.{set_value_same}
use Rattle.pe_state.proofs.row.Row.resume.Goals as goal

pub unreachable-requires : goal.unreachable-requires
unreachable-requires g c = no_place _ c.in_default.ensures.gap.lacks c.requires.stands

pub index_mut-requires : goal.index_mut-requires
index_mut-requires g c = let n = c.in-Ok.ensures.hit.inside in let l = ap length c.self.view_is in omega (arith, n, l)

pub resume-requires-clause-member : goal.resume-requires-clause-member
resume-requires-clause-member g c =
    let at = c.in-Ok.ensures.hit in
    let read = c.index_mut.ensures.value ∙ ap (λ r. get_or r c.in-Ok.place c.index_mut.result.now) c.self.view_is in
    subst (λ (o : Option (ElementView g.row.C.Denot)). IfSome o (λ el. el.index < c.args.sends.now.n)) (here_is at read) c.requires.member

pub invariant_of-self : goal.invariant_of-self
invariant_of-self g c =
    let w : IsWithin 0 ELEMENTS c.args.self.now = subst (λ (r : List (ℕ × ElementView g.row.C.Denot)). IsWithin 0 ELEMENTS r) c.self.view_is c.self.invariant in
    let at = c.in-Ok.ensures.hit in
    let read = c.index_mut.ensures.value ∙ ap (λ r. get_or r c.in-Ok.place c.index_mut.result.now) c.self.view_is in
    subst (λ (r : List (ℕ × ElementView g.row.C.Denot)). IsWithin 0 ELEMENTS r)
    (sym (edit_is at read c.self.inside.items.items c.self.view_is c.resume.new.self))
    (within_changed 0 ELEMENTS c.args.index c.resume.new.self c.args.self.now w)

pub returns-clause-room : goal.returns-clause-room
returns-clause-room g c =
    let at = c.in-Ok.ensures.hit in
    let read = c.index_mut.ensures.value ∙ ap (λ r. get_or r c.in-Ok.place c.index_mut.result.now) c.self.view_is in
    let here = here_is at read in
    let set_is = edit_is at read c.self.inside.items.items c.self.view_is c.resume.new.self in
    on_ok_weaker c.resume.result (λ k. set_is ∙ (rw here (ap (λ (el : ElementView g.row.C.Denot). changed c.args.index el c.args.self.now) k))) c.resume.ensures.element

pub returns-clause-note : goal.returns-clause-note
returns-clause-note g c =
    let at = c.in-Ok.ensures.hit in
    let read = c.index_mut.ensures.value ∙ ap (λ r. get_or r c.in-Ok.place c.index_mut.result.now) c.self.view_is in
    let here = here_is at read in
    rw here c.resume.ensures.note

pub returns-clause-sends : goal.returns-clause-sends
returns-clause-sends g c =
    let at = c.in-Ok.ensures.hit in
    let read = c.index_mut.ensures.value ∙ ap (λ r. get_or r c.in-Ok.place c.index_mut.result.now) c.self.view_is in
    let here = here_is at read in
    let key : c.index_mut.result.now.1.index ≡ c.args.index = subst (λ (o : Option (ElementView g.row.C.Denot)). IfSome o (λ el. el.index ≡ c.args.index)) here c.requires.keyed in
    rw here (rw (sym key) c.resume.ensures.sends)

pub returns-clause-err : goal.returns-clause-err
returns-clause-err g c =
    let at = c.in-Ok.ensures.hit in
    let read = c.index_mut.ensures.value ∙ ap (λ r. get_or r c.in-Ok.place c.index_mut.result.now) c.self.view_is in
    let here = here_is at read in
    let set_is = edit_is at read c.self.inside.items.items c.self.view_is c.resume.new.self in
    on_err_weaker c.resume.result (λ k. set_is ∙ set_value_same _ c.args.self.now c.resume.new.self (here ∙ ap Some (sym k))) c.resume.ensures.err

pub returns-clause-refused : goal.returns-clause-refused
returns-clause-refused g c =
    let at = c.in-Ok.ensures.hit in
    let read = c.index_mut.ensures.value ∙ ap (λ r. get_or r c.in-Ok.place c.index_mut.result.now) c.self.view_is in
    let here = here_is at read in
    rw here c.resume.ensures.refused
