use Rattle.std.proofs.Common.{◌≡◌, slice_index}
use Rattle.load_report.specs.Figures.{least}
use Rattle.load_report.proofs.figures.least_of.Given as goal

abbrev pub invariant-loop-p : goal.invariant-loop-p
invariant-loop-p l = l.least ≡ least l.total l.p (slice_index l.sums)
