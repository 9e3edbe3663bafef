use Rattle.std.proofs.Common.{◌-◌, ◌^◌, ◌<◌, ◌≤◌}
use Rattle.speed_partition.specs.Search.{Enclose}
use Rattle.speed_partition.proofs.search.least_ticks.Given as goal

abbrev pub invariant-loop-low : goal.invariant-loop-low
invariant-loop-low g l =
    record {
      enclosed : Enclose l.chain l.pes l.scale l.low l.high;
      few : l.high ≤ 2 ^ 107;
      idle : l.bounds.idle ≤ l.low;
      from : l.low ≤ l.ticks;
      below : l.low < l.high → l.ticks < l.high;
    }

abbrev pub decreases-loop-low : goal.decreases-loop-low
decreases-loop-low g l = l.high - l.low
