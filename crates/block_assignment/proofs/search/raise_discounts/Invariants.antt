use Rattle.std.proofs.Common.{◌≡◌, ℕ, ◌<◌, ◌≤◌, slice_index}
use Rattle.block_assignment.specs.Search.{IsRaised}
use Rattle.block_assignment.proofs.search.raise_discounts.Given as goal

abbrev pub invariant-loop-p : goal.invariant-loop-p
invariant-loop-p l =
    record {
      done : (p : ℕ) → p < l.p → IsRaised (slice_index l.rank p) (slice_index l.distance p) l.reach (slice_index l.initial.discount p) (slice_index l.discount p);
      to_do : (p : ℕ) → l.p ≤ p → slice_index l.discount p ≡ slice_index l.initial.discount p;
    }
