use Rattle.std.proofs.Common.{◌≡◌, ℕ, ◌+◌, ◌<◌, ◌≤◌, IfSome, MatchOption, length, slice_index, take}
use Rattle.block_assignment.specs.Search.{IsSized, IsMatched, IsTree, IsNearest, IsUnscanned, unscanned}
use Rattle.block_assignment.proofs.search.Search.name_next.Given as goal

abbrev pub invariant-loop-nearest : goal.invariant-loop-nearest
invariant-loop-nearest g l =
    record {
      sized : IsSized l.self;
      matched : IsMatched l.self;
      tree : IsTree l.rank l.self;
      table : l.self.table ≡ l.fn.self.table;
      named : l.self.named ≡ l.fn.self.named;
      listed : IsUnscanned l.self.rank (take l.count l.to_scan) l.self.table.blocks;
      nearest : MatchOption l.nearest ((p : ℕ) → p < l.self.table.blocks → 0 < slice_index l.self.rank p)
          (λ place. IsNearest l.self.rank l.self.distance l.self.table.blocks (slice_index (take l.count l.to_scan) place));
      inside : IfSome l.nearest (λ place. place < l.count);
      within : l.count ≤ length l.to_scan;
      not_yet : l.rank + unscanned l.self.rank ≡ l.self.table.blocks + 1;
    }

abbrev pub decreases-loop-nearest : goal.decreases-loop-nearest
decreases-loop-nearest g l = unscanned l.self.rank
