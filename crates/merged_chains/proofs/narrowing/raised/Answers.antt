use Rattle.merged_chains.proofs.NarrowedBounds.{raised_full, raised_left, raised_none}
use Rattle.merged_chains.proofs.narrowing.raised.Goals as goal
use Rattle.merged_chains.proofs.narrowing.raised.Goals.{then-closed-i, else-closed-i}

pub loop-i-init : goal.loop-i-init
loop-i-init c = raised_none c.args.pes c.args.low c.args.limits.now c.args.closed.now

pub loop-i-preserved : goal.loop-i-preserved
loop-i-preserved c =
    elim c.if-closed-i.branch [
      | then-closed-i w ↦ rw (w.raised-is, w.max-raised.ensures)
          (raised_full c.args.pes c.loop-i.i c.args.low c.loop-i.raised c.args.limits.now c.args.closed.now c.loop-i.invariant w.if-closed-i.true)
      | else-closed-i w ↦ rw w.raised-is (raised_left c.args.pes c.loop-i.i c.args.low c.loop-i.raised c.args.limits.now c.args.closed.now c.loop-i.invariant w.if-closed-i.false)
    ]
