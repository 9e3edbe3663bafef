use Rattle.std.proofs.Common.{arith}
use Rattle.chain_partition.proofs.Ranges.{load_nothing}
use Rattle.chain_partition.proofs.RunningSums.{greatest_between}
use Rattle.merged_chains.proofs.walk.reach.Goals as goal

pub loop-beyond-init : goal.loop-beyond-init
loop-beyond-init g c =
    record {
      onward = omega arith;
      apart = omega arith;
      inside = omega arith;
      light = omega (arith, load_nothing c.args.part.now c.args.first);
      heavy = λ within. absurd (omega (arith, within));
    }

pub returns-clause-greatest : goal.returns-clause-greatest
returns-clause-greatest g c =
    let end = c.loop-beyond.invariant in
    greatest_between c.args.part.now c.args.first c.args.room c.loop-beyond.fits c.loop-beyond.beyond end.onward
    (omega (arith, end.apart, c.loop-beyond-test.false)) end.inside end.light end.heavy
