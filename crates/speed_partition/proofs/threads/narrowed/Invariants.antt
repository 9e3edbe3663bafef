use Rattle.std.proofs.Common.{◌-◌, ◌<◌, ◌≤◌}
use Rattle.speed_partition.specs.Search.{Enclose}
use Rattle.speed_partition.proofs.threads.narrowed.Given as goal

abbrev pub invariant-loop-bound : goal.invariant-loop-bound
invariant-loop-bound g l =
    record {
      enclosed : Enclose l.chain l.pes l.scale l.low l.high;
      from : l.bounds.low ≤ l.low;
      to : l.high ≤ l.bounds.high;
      closer : 0 < l.bound-index → l.high - l.low < l.bounds.high - l.bounds.low;
    }
