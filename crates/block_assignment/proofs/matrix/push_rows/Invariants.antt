use Rattle.std.proofs.Common.{◌≡◌, ◌-◌, length}
use Rattle.std.specs.List.{zip}
use Rattle.block_assignment.specs.declared.limits.TheConstants.MatrixLimits.{BYTES}
use Rattle.block_assignment.proofs.Rows.{HasRows}
use Rattle.block_assignment.proofs.matrix.push_rows.Given as goal

abbrev pub invariant-loop-b : goal.invariant-loop-b
invariant-loop-b g l =
    record {
      rows : HasRows BYTES (zip l.bytes l.places) l.cuts (length l.cuts - 1) l.b l.costs.items;
      width : length l.row ≡ length l.cuts - 1;
    }
