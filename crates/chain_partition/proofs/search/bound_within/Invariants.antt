use Rattle.std.proofs.Common.{◌≡◌}
use Rattle.lb_snapshot.specs.Measured.{load}
use Rattle.chain_partition.proofs.Walks.{Walked}
use Rattle.chain_partition.proofs.search.bound_within.Given as goal

abbrev pub invariant-loop : goal.invariant-loop
invariant-loop l =
    record {
      walked : Walked l.loads l.counter l.limit l.heaviest l.least l.first;
      weighed : l.before ≡ load l.loads 0 l.first;
    }
