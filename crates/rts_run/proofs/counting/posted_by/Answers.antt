use Rattle.std.proofs.Common.{arith}
use Rattle.rts_core.proofs.Counts.{posted_rest, posted_end}
use Rattle.rts_run.proofs.counting.posted_by.Goals as goal

pub loop-end-preserved : goal.loop-end-preserved
loop-end-preserved g c =
    let next = posted_rest c.args.ends.now c.loop-end.end-index c.end-item.result (omega arith) c.end-item.is in
    record {
      counted = omega (arith, c.loop-end.invariant.counted, c.count-posted.ensures.value, next);
      few = omega (arith, c.loop-end.invariant.few, c.count-posted.ensures.few);
    }

pub returns-clause-value : goal.returns-clause-value
returns-clause-value g c = omega (arith, c.loop-end.invariant.counted, posted_end c.args.ends.now c.loop-end.end-index (omega arith))
