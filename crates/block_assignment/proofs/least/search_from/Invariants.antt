use Rattle.std.proofs.Common.{◌+◌, ◌*◌, length}
use Rattle.lb_certificates.specs.Naming.{total}
use Rattle.block_assignment.specs.Least.{member}
use Rattle.block_assignment.proofs.Reaches.{IsSearching}
use Rattle.block_assignment.proofs.least.search_from.Given as goal

abbrev pub invariant-loop-j : goal.invariant-loop-j
invariant-loop-j l = IsSearching l.takers l.names l.b l.i l.left l.waiting l.next

abbrev pub decreases-loop-j : goal.decreases-loop-j
decreases-loop-j l = 2 * total (length l.takers) (member l.left) + total (length l.takers) (member l.waiting)
