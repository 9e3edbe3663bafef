use Rattle.std.proofs.Common.{◌≡◌, length}
use Rattle.lb_certificates.specs.Held.{held_cost}
use Rattle.block_assignment.specs.declared.limits.TheConstants.MatrixLimits.{BYTES}
use Rattle.block_assignment.proofs.Rows.{HasRowsOf}
use Rattle.block_assignment.proofs.held_rows.push_rows.Given as goal

abbrev pub invariant-loop-b : goal.invariant-loop-b
invariant-loop-b g l =
    record {
      rows : HasRowsOf BYTES (held_cost l.blocks l.held) l.blocks l.b l.costs.items;
      width : length l.row ≡ l.blocks;
    }
