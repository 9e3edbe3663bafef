use Rattle.std.proofs.Common.{◌≡◌, take, sum_by}
use Rattle.load_report.proofs.figures.bytes_of.Given as goal

abbrev pub invariant-loop-bytes : goal.invariant-loop-bytes
invariant-loop-bytes l = l.total ≡ sum_by (λ size. size.0) (take l.bytes-index l.elements)
