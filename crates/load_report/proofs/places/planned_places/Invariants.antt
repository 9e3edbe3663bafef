use Rattle.std.proofs.Common.{◌≡◌}
use Rattle.load_report.specs.Figures.{planned_places}
use Rattle.load_report.proofs.places.planned_places.Given as goal

abbrev pub invariant-loop-i : goal.invariant-loop-i
invariant-loop-i g l = l.places.items ≡ planned_places l.decision.division.cuts l.decision.naming l.i
