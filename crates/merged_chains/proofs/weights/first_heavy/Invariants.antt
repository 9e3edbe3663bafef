use Rattle.merged_chains.specs.Weights.{NoneHeavy}
use Rattle.merged_chains.proofs.weights.first_heavy.Given as goal

abbrev pub invariant-loop-b : goal.invariant-loop-b
invariant-loop-b l = NoneHeavy l.block_loads l.b l.bottleneck
