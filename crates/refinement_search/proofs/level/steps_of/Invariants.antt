use Rattle.refinement_search.proofs.Levels.{AreStepsTo}
use Rattle.refinement_search.proofs.level.steps_of.Given as goal

abbrev pub invariant-loop-x : goal.invariant-loop-x
invariant-loop-x g l = AreStepsTo l.row l.near l.x l.steps.items l.last
