use Rattle.std.proofs.Common.{◌≡◌, ◌+◌, ◌*◌, ◌<◌, ◌^◌, arith}
use Rattle.lb_snapshot.specs.Measured.{load}
use Rattle.chain_partition.proofs.RunningSums.{load_split, load_within, sampled_more}
use Rattle.chain_partition.proofs.chain.push_samples.Goals as goal

pub light_total-before-requires : goal.light_total-before-requires
light_total-before-requires g c =
    let n = c.loop-group.group in
    let small : load c.args.loads.now (n * 16) (n * 16 + 16) < 2 ^ 63 = omega (arith, load_within c.args.loads.now (n * 16) (n * 16 + 16) (omega arith), c.requires.chain.light) in
    record { light = small }

pub overflow_add-before : goal.overflow_add-before
overflow_add-before g c =
    let xs = c.args.loads.now in
    let n = c.loop-group.group in
    let so_far = c.loop-group.invariant.samples in
    let group : c.light_total-before.result ≡ load xs (n * 16) (n * 16 + 16) = c.light_total-before.ensures.value in
    omega (
      arith,
      group,
      so_far.last,
      so_far.sampled.each n (omega arith),
      load_split xs (n * 16) (n * 16 + 16) (omega arith),
      load_within xs 0 (n * 16 + 16) (omega arith),
      c.requires.chain.light,
    )

pub loop-group-preserved : goal.loop-group-preserved
loop-group-preserved g c =
    let n = c.loop-group.group in
    record {
      samples = rw c.push_reserved-in-loop-group.ensures.items
          (sampled_more c.args.list.now.items c.args.loads.now n c.loop-group.before c.light_total-before.result c.loop-group.list.items
          c.loop-group.invariant.samples c.light_total-before.ensures.value);
      room = omega (arith, c.loop-group.invariant.room, c.push_reserved-in-loop-group.ensures.len, c.push_reserved-in-loop-group.ensures.capacity);
    }
