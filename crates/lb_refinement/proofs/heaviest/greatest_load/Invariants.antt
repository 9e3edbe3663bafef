use Rattle.lb_refinement.specs.Greatest.{IsGreatestOf}
use Rattle.lb_refinement.proofs.heaviest.greatest_load.Given as goal

abbrev pub invariant-loop-b : goal.invariant-loop-b
invariant-loop-b g l = IsGreatestOf l.loads l.cuts l.b l.most
