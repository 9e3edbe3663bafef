use Rattle.std.proofs.Common.{◌≡◌, ◌*◌, ◌^◌, ◌≤◌, sum_by, take}
use Rattle.lb_certificates.specs.Naming.{moved_bytes}
use Rattle.lb_certificates.proofs.block_costs.moved_to.Given as goal

abbrev pub invariant-loop-element : goal.invariant-loop-element
invariant-loop-element l =
    (l.moved ≡ sum_by (λ size. moved_bytes size l.pe) (take l.element-index l.elements)) × (l.moved ≤ l.element-index * 2 ^ 32)
