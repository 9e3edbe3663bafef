use Rattle.load_report.proofs.PlacedCounts.{AreCounted}
use Rattle.load_report.proofs.figures.count_elements.Given as goal

abbrev pub invariant-loop-place : goal.invariant-loop-place
invariant-loop-place l = AreCounted l.places l.place-index l.counts
