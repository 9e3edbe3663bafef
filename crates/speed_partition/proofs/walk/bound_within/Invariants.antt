use Rattle.std.proofs.Common.{◌≡◌, ◌<◌, ◌≤◌, length}
use Rattle.lb_snapshot.specs.Measured.{load}
use Rattle.speed_partition.proofs.WalkedTimes.{Walked}
use Rattle.speed_partition.proofs.walk.bound_within.Given as goal

abbrev pub invariant-loop-pe : goal.invariant-loop-pe
invariant-loop-pe g l =
    record {
      walked : Walked l.chain l.pes l.pe l.ticks l.scale l.first l.latest l.next;
      weighed : l.before ≡ load l.chain 0 l.first;
      short : 1 ≤ l.pe → l.first < length l.chain;
    }
