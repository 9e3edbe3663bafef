use Rattle.lb_certificates.proofs.BlockCosts.{Stands}
use Rattle.block_assignment.proofs.table.fill_row.Given as goal

abbrev pub invariant-loop-size : goal.invariant-loop-size
invariant-loop-size l = Stands l.pairs l.size-index l.row
