use Rattle.std.proofs.Common.{◌≡◌, slice_index}
use Rattle.load_report.specs.Figures.{greatest}
use Rattle.load_report.proofs.figures.greatest_of.Given as goal

abbrev pub invariant-loop-p : goal.invariant-loop-p
invariant-loop-p l = l.most ≡ greatest l.p (slice_index l.sums)
