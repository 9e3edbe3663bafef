use Rattle.std.proofs.Common.{ℕ, List, length, ◌<◌, ap, sym, subst, ◌∙◌, arith}
use Rattle.std.specs.Prelude.{IsSome}
use Rattle.chare_index.specs.declared.limits.TheConstants.Limits.{ELEMENTS}
use Rattle.chares.specs.Elements.{ElementView, unpacked}
use Rattle.pe_state.specs.Rooms.{found}
use Rattle.pe_state.specs.Rows.{IsWithin, BelongsAt}
use Rattle.pe_state.proofs.Places.{no_place, insert_is, within_joined}
use Rattle.pe_state.proofs.row.Row.install.Goals as goal

pub unreachable-requires : goal.unreachable-requires
unreachable-requires g c = no_place _ c.requires.lacks (subst (λ (e : ℕ). IsSome (found e c.args.self.now)) c.index-index.ensures.value c.in_default.ensures.hit.stands)

pub insert-requires : goal.insert-requires
insert-requires g c = let n = c.in-Err.ensures.gap.inside in let l = ap length c.self.view_is in let m = c.in-Ok.ensures.len in omega (arith, n, l, m)

pub unreachable-requires-in_default-insert : goal.unreachable-requires-in_default-insert
unreachable-requires-in_default-insert g c = let room = c.in-Ok.ensures.ok in let full = c.in_default-insert.ensures.full in omega (arith, room, full)

pub invariant_of-self-2 : goal.invariant_of-self-2
invariant_of-self-2 g c =
    let w : IsWithin 0 ELEMENTS c.args.self.now = subst (λ (r : List (ℕ × ElementView g.row.C.Denot)). IsWithin 0 ELEMENTS r) c.self.view_is c.self.invariant in
    let gap = subst (λ (e : ℕ). BelongsAt e c.args.self.now c.in-Err.place) c.index-index.ensures.value c.in-Err.ensures.gap in
    let is = c.in-Ok-insert.ensures.items ∙ insert_is gap c.reserve.new.self.items (c.in-Ok.ensures.items ∙ c.self.view_is) c.get.result
    (c.get.ensures.value ∙ c.index-index.ensures.value) c.open.result (unpacked c.args.packed c.args.chare) c.open.ensures.value in
    let few : c.args.packed.index < ELEMENTS = subst (λ (e : ℕ). e < ELEMENTS) c.index-index.ensures.value c.get.ensures.in_range in
    subst (λ (r : List (ℕ × ElementView g.row.C.Denot)). IsWithin 0 ELEMENTS r) (sym is)
    (within_joined 0 ELEMENTS c.args.packed.index (unpacked c.args.packed c.args.chare) c.args.self.now (omega arith) few w)

pub returns-clause-ok : goal.returns-clause-ok
returns-clause-ok g c =
    let gap = subst (λ (e : ℕ). BelongsAt e c.args.self.now c.in-Err.place) c.index-index.ensures.value c.in-Err.ensures.gap in
    c.in-Ok-insert.ensures.items ∙ insert_is gap c.reserve.new.self.items (c.in-Ok.ensures.items ∙ c.self.view_is) c.get.result
    (c.get.ensures.value ∙ c.index-index.ensures.value) c.open.result (unpacked c.args.packed c.args.chare) c.open.ensures.value
