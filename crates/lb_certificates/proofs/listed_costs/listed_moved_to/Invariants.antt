use Rattle.std.proofs.Common.{◌≡◌, ◌*◌, ◌^◌, ◌≤◌, sum_by, take}
use Rattle.std.specs.List.{zip}
use Rattle.lb_certificates.specs.Naming.{moved_bytes}
use Rattle.lb_certificates.proofs.listed_costs.listed_moved_to.Given as goal

abbrev pub invariant-loop-i : goal.invariant-loop-i
invariant-loop-i l =
    (l.moved ≡ sum_by (λ size. moved_bytes size l.pe) (take l.i (zip l.bytes l.places))) × (l.moved ≤ l.i * 2 ^ 32)
