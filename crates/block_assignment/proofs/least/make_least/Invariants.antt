use Rattle.std.proofs.Common.{ℕ, ◌<◌, length}
use Rattle.lb_certificates.specs.Naming.{IsNaming}
use Rattle.block_assignment.specs.Least.{IsAllowed, IsLeastAt}
use Rattle.block_assignment.proofs.least.make_least.Given as goal

abbrev pub invariant-loop-b : goal.invariant-loop-b
invariant-loop-b l =
    record {
      naming : IsNaming (length l.takers) l.names;
      allowed : IsAllowed l.takers l.names;
      least : (k : ℕ) → k < l.b → IsLeastAt l.takers l.names k;
    }
