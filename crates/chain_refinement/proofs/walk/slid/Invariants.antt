use Rattle.std.proofs.Common.{◌+◌, ◌-◌}
use Rattle.chain_refinement.proofs.Windows.{IsSliding}
use Rattle.chain_refinement.proofs.walk.slid.Given as goal

abbrev pub invariant-loop-weight : goal.invariant-loop-weight
invariant-loop-weight l = IsSliding l.loads (l.element + 1) l.limit l.start l.weight

abbrev pub decreases-loop-weight : goal.decreases-loop-weight
decreases-loop-weight l = l.element + 1 - l.start
