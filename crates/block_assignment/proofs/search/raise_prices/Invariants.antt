use Rattle.std.proofs.Common.{◌≡◌, ℕ, ◌<◌, ◌≤◌, slice_index}
use Rattle.block_assignment.specs.Search.{IsRaised}
use Rattle.block_assignment.proofs.search.raise_prices.Given as goal

abbrev pub invariant-loop-b : goal.invariant-loop-b
invariant-loop-b l =
    record {
      done : (b : ℕ) → b < l.b → IsRaised (slice_index l.rank (slice_index l.names b)) (slice_index l.distance (slice_index l.names b))
          l.reach (slice_index l.initial.price b) (slice_index l.price b);
      to_do : (b : ℕ) → l.b ≤ b → slice_index l.price b ≡ slice_index l.initial.price b;
    }
