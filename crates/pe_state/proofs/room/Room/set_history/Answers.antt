use Rattle.std.proofs.Common.{◌<◌, length, ◌∙◌, arith}
use Rattle.pe_state.proofs.Edits.{same_row}
use Rattle.pe_state.proofs.room.Room.set_history.Goals as goal

pub invariant_of-self : goal.invariant_of-self
invariant_of-self g c =
    let within = c.if-len-row.false in
    let long = c.len.ensures in
    let h : c.row_number-row.result < length c.self.inside.rows.items = omega (arith, within, long) in
    (same_row c.self.inside.rows.items c.row_number-row.result c.args.index c.index_mut.result.now c.set_history.new.self c.self.invariant h
    c.row_number-row.ensures.value c.index_mut.ensures.value c.set_history.ensures.same).1

pub returns : goal.returns
returns g c =
    let within = c.if-len-row.false in
    let long = c.len.ensures in
    let h : c.row_number-row.result < length c.self.inside.rows.items = omega (arith, within, long) in
    record {
      same = (same_row c.self.inside.rows.items c.row_number-row.result c.args.index c.index_mut.result.now c.set_history.new.self
          c.self.invariant h c.row_number-row.ensures.value c.index_mut.ensures.value c.set_history.ensures.same).0 ∙ c.self.view_is;
    }
