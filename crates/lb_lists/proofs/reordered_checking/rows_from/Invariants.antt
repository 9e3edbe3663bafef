use Rattle.std.proofs.Common.{◌≡◌, ◌≤◌, take}
use Rattle.std.specs.List.{zip}
use Rattle.lb_lists.specs.Steps.{rows_between}
use Rattle.lb_lists.proofs.reordered_checking.rows_from.Given as goal

abbrev pub invariant-loop-b : goal.invariant-loop-b
invariant-loop-b g l =
    record {
      rows : l.rows.items ≡ rows_between (take l.b l.starts) (zip l.places l.bytes);
      from : 1 ≤ l.b;
    }
