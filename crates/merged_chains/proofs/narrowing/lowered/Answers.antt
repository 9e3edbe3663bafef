use Rattle.merged_chains.proofs.NarrowedBounds.{lowered_full, lowered_left, lowered_none}
use Rattle.merged_chains.proofs.narrowing.lowered.Goals as goal
use Rattle.merged_chains.proofs.narrowing.lowered.Goals.{then-closed-i, else-closed-i}

pub loop-i-init : goal.loop-i-init
loop-i-init c = lowered_none c.args.pes c.args.high c.args.limits.now c.args.closed.now

pub loop-i-preserved : goal.loop-i-preserved
loop-i-preserved c =
    elim c.if-closed-i.branch [
      | then-closed-i w ↦ rw (w.lowered-is, w.min-lowered.ensures)
          (lowered_left c.args.pes c.loop-i.i c.args.high c.loop-i.lowered c.args.limits.now c.args.closed.now c.loop-i.invariant w.if-closed-i.true)
      | else-closed-i w ↦ rw w.lowered-is (lowered_full c.args.pes c.loop-i.i c.args.high c.loop-i.lowered c.args.limits.now
          c.args.closed.now c.loop-i.invariant w.if-closed-i.false)
    ]
