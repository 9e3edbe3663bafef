use Rattle.std.proofs.Common.{◌≡◌, ◌<◌, Option, length, ap, sym, subst, ◌∙◌, arith}
use Rattle.std.specs.Prelude.{IfSome}
use Rattle.chares.specs.Elements.{ElementView}
use Rattle.pe_state.specs.Rooms.{found, without}
use Rattle.pe_state.specs.Rows.{entries_of}
use Rattle.pe_state.proofs.Edits.{keyed_found, found_there, found_nowhere, without_row}
use Rattle.pe_state.proofs.Taking.{without_nowhere}
use Rattle.pe_state.proofs.room.Room.take.Goals as goal

pub returns-then-len-row-clause-value : goal.returns-then-len-row-clause-value
returns-then-len-row-clause-value g c =
    let past = c.if-len-row.true in
    let long = c.len.ensures in
    sym (ap (found c.args.index) (sym c.self.view_is) ∙ found_nowhere c.self.inside.rows.items c.row_number-row.result c.args.index
    c.self.invariant (omega (arith, past, long)) c.row_number-row.ensures.value)

pub returns-then-len-row-clause-left : goal.returns-then-len-row-clause-left
returns-then-len-row-clause-left g c =
    let past = c.if-len-row.true in
    let long = c.len.ensures in
    rw (← c.self.view_is) (sym (without_nowhere c.self.inside.rows.items c.row_number-row.result c.args.index c.self.invariant
    (omega (arith, past, long)) c.row_number-row.ensures.value))

pub invariant_of-self : goal.invariant_of-self
invariant_of-self g c =
    let within = c.if-len-row.false in
    let long = c.len.ensures in
    let h : c.row_number-row.result < length c.self.inside.rows.items = omega (arith, within, long) in
    (without_row c.self.inside.rows.items c.row_number-row.result c.args.index c.index_mut.result.now c.take.new.self c.self.invariant h
    c.row_number-row.ensures.value c.index_mut.ensures.value c.take.ensures.left).1

pub returns-clause-value : goal.returns-clause-value
returns-clause-value g c =
    let within = c.if-len-row.false in
    let long = c.len.ensures in
    let h : c.row_number-row.result < length c.self.inside.rows.items = omega (arith, within, long) in
    c.take.ensures.value ∙ found_there c.self.inside.rows.items c.row_number-row.result c.args.index c.index_mut.result.now c.self.invariant
    h c.row_number-row.ensures.value c.index_mut.ensures.value ∙ ap (found c.args.index) c.self.view_is

pub returns-clause-index : goal.returns-clause-index
returns-clause-index g c =
    let within = c.if-len-row.false in
    let long = c.len.ensures in
    let h : c.row_number-row.result < length c.self.inside.rows.items = omega (arith, within, long) in
    let there = c.take.ensures.value ∙ found_there c.self.inside.rows.items c.row_number-row.result c.args.index c.index_mut.result.now
    c.self.invariant h c.row_number-row.ensures.value c.index_mut.ensures.value in
    subst (λ (o : Option (ElementView g.row.C.Denot)). IfSome o (λ el. el.index ≡ c.args.index)) (sym there)
    (keyed_found (entries_of c.self.inside.rows.items) c.self.invariant.keyed c.args.index)

pub returns-clause-left : goal.returns-clause-left
returns-clause-left g c =
    let within = c.if-len-row.false in
    let long = c.len.ensures in
    let h : c.row_number-row.result < length c.self.inside.rows.items = omega (arith, within, long) in
    (without_row c.self.inside.rows.items c.row_number-row.result c.args.index c.index_mut.result.now c.take.new.self c.self.invariant h
    c.row_number-row.ensures.value c.index_mut.ensures.value c.take.ensures.left).0 ∙ ap (without c.args.index) c.self.view_is
