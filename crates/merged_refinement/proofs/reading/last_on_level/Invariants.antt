use Rattle.std.proofs.Common.{◌≡◌, ◌-◌, ◌≤◌}
use Rattle.merged_refinement.specs.Rows.{row_at}
use Rattle.merged_refinement.proofs.reading.last_on_level.Given as goal

abbrev pub invariant-loop-cut : goal.invariant-loop-cut
invariant-loop-cut g l =
    record {
      from : l.low ≤ l.cut;
      to : l.cut ≤ l.far;
      level : row_at l.row l.cut ≡ row_at l.row l.low;
    }

abbrev pub decreases-loop-cut : goal.decreases-loop-cut
decreases-loop-cut g l = l.far - l.cut
