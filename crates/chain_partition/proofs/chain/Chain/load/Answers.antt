use Rattle.std.proofs.Common.{arith}
use Rattle.chain_partition.proofs.RunningSums.{load_fits}
use Rattle.chain_partition.proofs.chain.Chain.load.Goals as goal

pub returns-clause-small : goal.returns-clause-small
returns-clause-small g c =
    omega (
      arith,
      c.load_between.ensures.value,
      load_fits c.self.inside.loads.now c.self.inside.samples.items c.args.first c.args.end c.self.invariant c.requires.ordered,
    )
