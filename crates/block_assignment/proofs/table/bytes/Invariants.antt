use Rattle.std.proofs.Common.{◌≡◌, take, sum_by}
use Rattle.block_assignment.proofs.table.bytes.Given as goal

abbrev pub invariant-loop-size : goal.invariant-loop-size
invariant-loop-size l = l.total ≡ sum_by (λ size. size.0) (take l.size-index l.pairs)
