use Rattle.std.proofs.Common.{◌+◌, ◌-◌}
use Rattle.merged_refinement.proofs.LeastStarts.{IsSlidTo}
use Rattle.merged_refinement.proofs.starts.slid.Given as goal

abbrev pub invariant-loop-from : goal.invariant-loop-from
invariant-loop-from g l = IsSlidTo l.loads (l.element + 1) l.limit l.from

abbrev pub decreases-loop-from : goal.decreases-loop-from
decreases-loop-from g l = l.element + 1 - l.from
