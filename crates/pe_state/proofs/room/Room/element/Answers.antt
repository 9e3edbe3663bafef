use Rattle.std.proofs.Common.{◌≡◌, Option, ap, sym, subst, ◌∙◌, arith}
use Rattle.std.specs.Prelude.{IfSome}
use Rattle.chares.specs.Elements.{ElementView}
use Rattle.pe_state.specs.Rooms.{found}
use Rattle.pe_state.specs.Rows.{entries_of}
use Rattle.pe_state.proofs.Edits.{from_copied, keyed_found, found_there, found_nowhere}
use Rattle.pe_state.proofs.room.Room.element.Goals as goal

pub returns-then-len-row-clause-value : goal.returns-then-len-row-clause-value
returns-then-len-row-clause-value g c =
    let past = c.if-len-row.true in
    let long = c.len.ensures in
    sym (ap (found c.args.index) (sym c.self.view_is) ∙ found_nowhere c.self.inside.rows.items c.row_number-row.result c.args.index
    c.self.invariant (omega (arith, past, long)) c.row_number-row.ensures.value)

pub returns-clause-value : goal.returns-clause-value
returns-clause-value g c =
    let within = c.if-len-row.false in
    let long = c.len.ensures in
    c.element.ensures.value ∙ found_there c.self.inside.rows.items c.row_number-row.result c.args.index c.index.result.now c.self.invariant
    (omega (arith, within, long)) c.row_number-row.ensures.value c.index.ensures ∙ ap (found c.args.index) c.self.view_is

pub returns-clause-index : goal.returns-clause-index
returns-clause-index g c =
    let within = c.if-len-row.false in
    let long = c.len.ensures in
    let there = c.element.ensures.value ∙ found_there c.self.inside.rows.items c.row_number-row.result c.args.index c.index.result.now
    c.self.invariant (omega (arith, within, long)) c.row_number-row.ensures.value c.index.ensures in
    from_copied (λ (el : ElementView g.row.C.Denot). el.index ≡ c.args.index) c.element.result
    (subst (λ (o : Option (ElementView g.row.C.Denot)). IfSome o (λ el. el.index ≡ c.args.index)) (sym there)
    (keyed_found (entries_of c.self.inside.rows.items) c.self.invariant.keyed c.args.index))
