use Rattle.std.proofs.Common.{◌≡◌}
use Rattle.block_assignment.specs.Search.{IsSized, IsMatched, IsSmall}
use Rattle.block_assignment.proofs.cheapest_names.name_all.Given as goal

abbrev pub invariant-loop : goal.invariant-loop
invariant-loop g l =
    record {
      sized : IsSized l.search;
      matched : IsMatched l.search;
      small : IsSmall l.search;
      table : l.search.table ≡ l.initial.search.table;
      named : l.search.named ≡ l.counter;
    }
