use Rattle.std.proofs.Common.{ℕ, List, length, ap, subst, arith}
use Rattle.std.proofs.lemmas.List.{drop_all}
use Rattle.chares.specs.Elements.{ElementView}
use Rattle.pe_state.specs.Rooms.{IsKeyed}
use Rattle.pe_state.specs.Rows.{entries_of}
use Rattle.pe_state.proofs.Edits.{keyed_found, left_from, rows_long}
use Rattle.pe_state.proofs.room.Room.len.Goals as goal

pub loop-row-init : goal.loop-row-init
loop-row-init g c =
    let most = rows_long 0 c.self.inside.rows.items c.self.invariant.in_rows in
    let few = c.self.invariant.few in
    let long = ap length c.self.view_is in
    let same = ap (λ (rs : List (List (ℕ × ElementView g.row.C.Denot))). length (entries_of rs)) c.deref-row-items.ensures.value in
    record { left = omega (arith, long, same); short = omega (arith, most, few, long) }

pub loop-row-preserved : goal.loop-row-preserved
loop-row-preserved g c =
    let at = c.loop-row.invariant in
    let left = left_from c.deref-row-items.result.now c.loop-row.row-index c.row-item.result c.loop-row-test.true c.row-item.is in
    let here = ap length c.items.ensures.value in
    record { left = omega (arith, at.left, left, here); short = at.short }

pub overflow_add-len : goal.overflow_add-len
overflow_add-len g c =
    let at = c.loop-row.invariant in
    let left = left_from c.deref-row-items.result.now c.loop-row.row-index c.row-item.result c.loop-row-test.true c.row-item.is in
    let here = ap length c.items.ensures.value in
    omega (arith, at.left, at.short, left, here)

pub returns-clause-value : goal.returns-clause-value
returns-clause-value g c =
    let left = c.loop-row.invariant.left in
    let none = ap (λ (rs : List (List (ℕ × ElementView g.row.C.Denot))). length (entries_of rs))
    (drop_all c.loop-row.row-index c.deref-row-items.result.now c.loop-row-test.false) in
    omega (arith, left, none)

pub returns-clause-keyed : goal.returns-clause-keyed
returns-clause-keyed g c = subst (λ (r : List (ℕ × ElementView g.row.C.Denot)). IsKeyed r) c.self.view_is (keyed_found (entries_of c.self.inside.rows.items) c.self.invariant.keyed)
