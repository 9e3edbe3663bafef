use Rattle.std.proofs.Common.{◌≡◌, ◌*◌, ◌≤◌}
use Rattle.block_assignment.specs.Table.{cost_at}
use Rattle.block_assignment.specs.declared.limits.TheConstants.MatrixLimits.{BYTES}
use Rattle.lb_certificates.specs.Naming.{naming_cost}
use Rattle.merged_chains.proofs.name_lists.moved_by.Given as goal

abbrev pub invariant-loop-b : goal.invariant-loop-b
invariant-loop-b g l =
    record {
      so_far : l.moved ≡ naming_cost l.b (cost_at l.matrix) l.names;
      small : l.moved ≤ l.b * BYTES;
    }
