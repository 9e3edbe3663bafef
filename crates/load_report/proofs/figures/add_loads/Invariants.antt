use Rattle.load_report.proofs.PlacedLoads.{AreAdded}
use Rattle.load_report.proofs.figures.add_loads.Given as goal

abbrev pub invariant-loop-i : goal.invariant-loop-i
invariant-loop-i l = AreAdded l.loads l.places l.i l.sums
