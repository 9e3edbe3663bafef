use Rattle.std.proofs.Common.{◌≡◌, ◌*◌, ◌^◌, ◌≤◌}
use Rattle.block_assignment.specs.Search.{IsSized, IsMatched, IsSmall}
use Rattle.block_assignment.proofs.cheapest_names.name_while_short.Given as goal

abbrev pub invariant-loop-b : goal.invariant-loop-b
invariant-loop-b g l =
    record {
      sized : IsSized l.search;
      matched : IsMatched l.search;
      small : IsSmall l.search;
      table : l.search.table ≡ l.initial.search.table;
      named : l.search.named ≡ l.b;
      scanned : l.scanned ≤ l.b * 2 ^ 32;
    }
