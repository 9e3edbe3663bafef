use Rattle.std.proofs.Common.{◌∙◌, arith}
use Rattle.pe_state.proofs.Edits.{pushed_row}
use Rattle.pe_state.proofs.room.open_rows.Goals as goal

pub loop-alloc-preserved : goal.loop-alloc-preserved
loop-alloc-preserved g c =
    let test = c.loop-alloc-test.true in
    let few = c.requires.few in
    let long = c.len.ensures in
    let got = pushed_row c.loop-alloc.rows.items c.push.new.self.items c.new.result c.loop-alloc.invariant.room
    (omega (arith, test, few, long)) c.in_ok-push.ensures.items c.new.ensures.value in
    record { same = got.0 ∙ c.loop-alloc.invariant.same; room = got.1 }
