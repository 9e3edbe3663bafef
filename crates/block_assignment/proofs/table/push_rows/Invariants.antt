use Rattle.std.proofs.Common.{◌≡◌, ◌-◌, ◌^◌, length}
use Rattle.block_assignment.proofs.Rows.{HasRows}
use Rattle.block_assignment.proofs.table.push_rows.Given as goal

abbrev pub invariant-loop-b : goal.invariant-loop-b
invariant-loop-b g l =
    record {
      rows : HasRows (2 ^ 36) l.pairs l.cuts (length l.cuts - 1) l.b l.costs.items;
      width : length l.row ≡ length l.cuts - 1;
    }
