use Rattle.std.proofs.Common.{◌/◌, ◌*◌, arith}
use Rattle.chain_partition.proofs.RunningSums.{load_by_sample, load_fits}
use Rattle.chain_partition.proofs.chain.load_before.Goals as goal

pub light_total-requires : goal.light_total-requires
light_total-requires c =
    record { light = load_fits c.args.loads.now c.args.samples.now (c.args.end / 16 * 16) c.args.end c.requires.valid (omega arith) }

pub overflow_add-result : goal.overflow_add-result
overflow_add-result c =
    omega (
      arith,
      c.light_total.ensures.value,
      load_by_sample c.args.loads.now c.args.samples.now c.args.end c.requires.valid
          c.requires.within,
      load_fits c.args.loads.now c.args.samples.now 0 c.args.end c.requires.valid (omega arith),
    )

pub returns : goal.returns
returns c =
    record { value = omega (arith, c.light_total.ensures.value, load_by_sample c.args.loads.now c.args.samples.now c.args.end c.requires.valid c.requires.within) }
