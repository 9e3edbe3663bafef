use Rattle.std.proofs.Common.{ℕ, List, length, slice_index}
use Rattle.lb_certificates.specs.Naming.{total}
use Rattle.block_assignment.specs.Least.{IsTrail}
use Rattle.block_assignment.proofs.Exchanges.{IsPassing, same}
use Rattle.block_assignment.proofs.least.give_least_pe.Given as goal

abbrev pub invariant-loop-taken : goal.invariant-loop-taken
invariant-loop-taken l =
    (left : List ℕ) × (trail : IsTrail l.takers l.initial.names l.b left l.next) × IsPassing l.takers l.initial.names l.b l.initial.taken left l.next trail l.names l.holder l.taken

abbrev pub decreases-loop-taken : goal.decreases-loop-taken
decreases-loop-taken l = total (length l.takers) (λ k. same (slice_index l.names k) (slice_index l.initial.names k))
