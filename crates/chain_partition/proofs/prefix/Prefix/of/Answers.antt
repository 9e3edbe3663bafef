use Rattle.chain_partition.proofs.RunningSums.{chain_of_loads}
use Rattle.chain_partition.proofs.prefix.Prefix.of.Goals as goal

pub push_samples-requires-clause-chain : goal.push_samples-requires-clause-chain
push_samples-requires-clause-chain g c =
    rw c.as_slice-loads.ensures.value (chain_of_loads c.args.loads.now c.as_slice-loads.ensures.within_limits)
