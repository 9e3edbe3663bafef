use Rattle.std.specs.List.{zip}
use Rattle.lb_certificates.proofs.BlockCosts.{Stands}
use Rattle.block_assignment.proofs.matrix.fill_row.Given as goal

abbrev pub invariant-loop-i : goal.invariant-loop-i
invariant-loop-i l = Stands (zip l.bytes l.places) l.i l.row
