use Rattle.std.proofs.Common.{◌+◌, ◌≤◌, arith, slice_index}
use Rattle.refinement_search.proofs.Levels.{step_more}
use Rattle.refinement_search.proofs.level.steps_of.Goals as goal

pub loop-x-preserved : goal.loop-x-preserved
loop-x-preserved g c =
    let h = c.loop-x.invariant in
    let low : c.loop-x.last ≤ slice_index c.args.row.now (c.loop-x.x + 1) = omega
    (arith, h.last_is, c.requires.rises c.loop-x.x (c.loop-x.x + 1) h.onward (omega arith) (omega (arith, c.loop-x-test.true))) in
    rw c.in_ok-push_step-2.ensures.items (step_more c.args.row.now c.args.near c.loop-x.x c.loop-x.steps.items c.loop-x.last h low)
