use Rattle.std.proofs.Common.{◌≡◌}
use Rattle.lb_refinement.specs.Refined.{refined_cuts, refined_names}
use Rattle.load_report.specs.Figures.{planned_places}
use Rattle.load_report.proofs.places.refined_places.Given as goal

abbrev pub invariant-loop-i : goal.invariant-loop-i
invariant-loop-i g l =
    l.places.items ≡ planned_places (refined_cuts l.decision) (refined_names l.decision) l.i
