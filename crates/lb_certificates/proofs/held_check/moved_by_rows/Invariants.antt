use Rattle.std.proofs.Common.{◌≡◌, ◌*◌, ◌^◌, ◌≤◌}
use Rattle.lb_certificates.specs.Held.{held_cost}
use Rattle.lb_certificates.specs.Naming.{naming_cost}
use Rattle.lb_certificates.proofs.held_check.moved_by_rows.Given as goal

abbrev pub invariant-loop-b : goal.invariant-loop-b
invariant-loop-b l =
    (l.moved ≡ naming_cost l.b (held_cost l.blocks l.held) l.names) × (l.moved ≤ l.b * l.blocks * 2 ^ 64)
