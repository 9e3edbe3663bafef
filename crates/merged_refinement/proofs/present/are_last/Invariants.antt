use Rattle.merged_refinement.specs.Lists.{AreLast}
use Rattle.merged_refinement.proofs.present.are_last.Given as goal

abbrev pub invariant-loop-b : goal.invariant-loop-b
invariant-loop-b g l = AreLast l.loads l.starts l.b l.limit l.last
