use Rattle.merged_refinement.specs.Lists.{AreFirst}
use Rattle.merged_refinement.proofs.present.are_first.Given as goal

abbrev pub invariant-loop-b : goal.invariant-loop-b
invariant-loop-b g l = AreFirst l.loads l.starts l.b l.limit l.first
