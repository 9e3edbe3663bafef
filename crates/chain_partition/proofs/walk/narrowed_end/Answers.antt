use Rattle.std.proofs.Common.{◌≡◌, ◌+◌, ◌-◌, ◌*◌, ◌/◌, ◌≤◌, slice_index, arith}
use Rattle.lb_snapshot.specs.Measured.{load}
use Rattle.chain_partition.proofs.RunningSums.{sample_from}
use Rattle.chain_partition.proofs.walk.narrowed_end.Goals as goal

pub overflow_sub-reached : goal.overflow_sub-reached
overflow_sub-reached c =
    let before = c.loop-beyond.invariant in
    let group = (c.loop-beyond.fits + (c.loop-beyond.beyond - c.loop-beyond.fits) / 2) / 16 in
    omega (
      arith,
      sample_from c.args.loads.now c.args.samples.now c.args.first group c.args.before c.requires.valid c.requires.before
          (omega (arith, before.onward, c.loop-beyond-test.true)) (omega (arith, before.inside, c.loop-beyond-test.true)),
    )

pub loop-beyond-preserved-then-reached-limit : goal.loop-beyond-preserved-then-reached-limit
loop-beyond-preserved-then-reached-limit c =
    let before = c.loop-beyond.invariant in
    let group = (c.loop-beyond.fits + (c.loop-beyond.beyond - c.loop-beyond.fits) / 2) / 16 in
    let onward : c.args.first ≤ group * 16 = omega (arith, before.onward, c.loop-beyond-test.true) in
    let kept : slice_index c.args.samples.now group ≡ c.args.before + load c.args.loads.now c.args.first (group * 16) = sample_from
    c.args.loads.now c.args.samples.now c.args.first group c.args.before c.requires.valid c.requires.before onward
    (omega (arith, before.inside, c.loop-beyond-test.true)) in
    record {
      onward = onward;
      apart = omega (arith, c.loop-beyond-test.true);
      inside = before.inside;
      weighed = omega (arith, kept);
      light = c.if-reached-limit.true;
      heavy = before.heavy;
    }

pub loop-beyond-preserved : goal.loop-beyond-preserved
loop-beyond-preserved c =
    let before = c.loop-beyond.invariant in
    let group = (c.loop-beyond.fits + (c.loop-beyond.beyond - c.loop-beyond.fits) / 2) / 16 in
    let onward : c.args.first ≤ group * 16 = omega (arith, before.onward, c.loop-beyond-test.true) in
    let kept : slice_index c.args.samples.now group ≡ c.args.before + load c.args.loads.now c.args.first (group * 16) = sample_from
    c.args.loads.now c.args.samples.now c.args.first group c.args.before c.requires.valid c.requires.before onward
    (omega (arith, before.inside, c.loop-beyond-test.true)) in
    record {
      onward = before.onward;
      apart = omega (arith, c.loop-beyond-test.true);
      inside = omega (arith, before.inside, c.loop-beyond-test.true);
      weighed = before.weighed;
      light = before.light;
      heavy = λ within. omega (arith, kept, c.if-reached-limit.false);
    }
