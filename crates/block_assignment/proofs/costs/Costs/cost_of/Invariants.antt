use Rattle.std.proofs.Common.{◌≡◌, ◌≤◌, ◌*◌, slice_index}
use Rattle.lb_certificates.specs.Naming.{total}
use Rattle.block_assignment.specs.declared.limits.TheConstants.MatrixLimits.{BYTES}
use Rattle.block_assignment.specs.Table.{cost_at}
use Rattle.block_assignment.proofs.costs.Costs.cost_of.Given as goal

abbrev pub invariant-loop-b : goal.invariant-loop-b
invariant-loop-b l =
    record {
      value : l.total ≡ total l.b (λ b. cost_at l.self b (slice_index l.names b));
      small : l.total ≤ l.b * BYTES;
    }
