use Rattle.std.proofs.Common.{◌≡◌, ◌+◌, slice_index, arith}
use Rattle.lb_snapshot.specs.Measured.{load}
use Rattle.chain_partition.proofs.Ranges.{load_more}
use Rattle.chain_partition.proofs.RunningSums.{greatest_between, load_fits}
use Rattle.chain_partition.proofs.walk.end_of_block.Goals as goal

pub overflow_add-load : goal.overflow_add-load
overflow_add-load c =
    let xs = c.args.loads.now in
    let before = c.loop-block.invariant in
    let more : load xs c.args.first (c.loop-block.block.end + 1) ≡ load xs c.args.first c.loop-block.block.end + slice_index xs
    c.loop-block.block.end = load_more xs c.args.first c.loop-block.block.end 0 before.onward (omega (arith, before.inside, c.loop-block-test.true)) in
    omega (arith, more, before.weighed, load_fits xs c.args.samples.now c.args.first (c.loop-block.block.end + 1) c.requires.valid (omega (arith, before.onward)))

pub loop-block-preserved-then-load-limit : goal.loop-block-preserved-then-load-limit
loop-block-preserved-then-load-limit c =
    let xs = c.args.loads.now in
    let before = c.loop-block.invariant in
    let more : load xs c.args.first (c.loop-block.block.end + 1) ≡ load xs c.args.first c.loop-block.block.end + slice_index xs
    c.loop-block.block.end = load_more xs c.args.first c.loop-block.block.end 0 before.onward (omega (arith, before.inside, c.loop-block-test.true)) in
    record {
      onward = omega (arith, before.onward);
      apart = c.loop-block-test.true;
      inside = before.inside;
      weighed = omega (arith, more, before.weighed);
      light = c.if-load-limit.true;
      heavy = before.heavy;
    }

pub loop-block-preserved : goal.loop-block-preserved
loop-block-preserved c =
    let xs = c.args.loads.now in
    let before = c.loop-block.invariant in
    let more : load xs c.args.first (c.loop-block.block.end + 1) ≡ load xs c.args.first c.loop-block.block.end + slice_index xs
    c.loop-block.block.end = load_more xs c.args.first c.loop-block.block.end 0 before.onward (omega (arith, before.inside, c.loop-block-test.true)) in
    record {
      onward = before.onward;
      apart = omega arith;
      inside = omega (arith, before.inside, c.loop-block-test.true);
      weighed = before.weighed;
      light = before.light;
      heavy = λ within. omega (arith, more, before.weighed, c.if-load-limit.false);
    }

pub returns-clause-greatest : goal.returns-clause-greatest
returns-clause-greatest c =
    let end = c.loop-block.invariant in
    greatest_between c.args.loads.now c.args.first c.args.limit c.loop-block.block.end c.loop-block.beyond end.onward
    (omega (arith, end.apart, c.loop-block-test.false)) end.inside (omega (arith, end.weighed, end.light)) end.heavy
