use Rattle.std.proofs.Common.{◌≡◌, length}
use Rattle.block_assignment.specs.declared.limits.TheConstants.MatrixLimits.{BYTES}
use Rattle.block_assignment.specs.Discounted.{discounted_cost}
use Rattle.block_assignment.proofs.Rows.{HasRowsOf}
use Rattle.block_assignment.proofs.discounted.push_rows.Given as goal

abbrev pub invariant-loop-b : goal.invariant-loop-b
invariant-loop-b g l =
    record {
      rows : HasRowsOf BYTES (discounted_cost l.table l.discount) l.table.blocks l.b l.costs.items;
      width : length l.row ≡ l.table.blocks;
    }
