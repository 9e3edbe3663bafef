use Rattle.chain_partition.proofs.RunningSums.{chain_of_loads}
use Rattle.chain_partition.proofs.chain.Chain.of.Goals as goal

pub sampled-requires : goal.sampled-requires
sampled-requires g c =
    record { chain = rw c.as_slice.ensures.value (chain_of_loads c.args.loads.now c.as_slice.ensures.within_limits) }
