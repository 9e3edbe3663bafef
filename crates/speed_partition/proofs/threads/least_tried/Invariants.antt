use Rattle.std.proofs.Common.{◌-◌, ◌^◌, ◌≤◌}
use Rattle.speed_partition.specs.Greedy.{AllIdleBy}
use Rattle.speed_partition.specs.Search.{Enclose}
use Rattle.speed_partition.proofs.threads.least_tried.Given as goal

abbrev pub invariant-loop-bounds : goal.invariant-loop-bounds
invariant-loop-bounds g l =
    record {
      enclosed : Enclose l.chain l.pes l.scale l.bounds.low l.bounds.high;
      idle : AllIdleBy l.pes l.bounds.idle l.scale;
      from : l.bounds.idle ≤ l.bounds.low;
      few : l.bounds.high ≤ 2 ^ 107;
    }

abbrev pub decreases-loop-bounds : goal.decreases-loop-bounds
decreases-loop-bounds g l = l.bounds.high - l.bounds.low
