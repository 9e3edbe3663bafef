use Rattle.merged_chains.specs.Weights.{NoneLighter}
use Rattle.merged_chains.proofs.weights.first_lighter.Given as goal

abbrev pub invariant-loop-i : goal.invariant-loop-i
invariant-loop-i l = NoneLighter l.fence_loads l.i l.bottleneck
