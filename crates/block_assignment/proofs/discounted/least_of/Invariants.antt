use Rattle.std.proofs.Common.{◌≡◌, ℕ, ◌<◌, ◌≤◌, length, slice_index}
use Rattle.block_assignment.proofs.discounted.least_of.Given as goal

abbrev pub invariant-loop-k : goal.invariant-loop-k
invariant-loop-k l =
    record {
      low : (q : ℕ) → q < l.k → l.least ≤ slice_index l.numbers q;
      reached : (q : ℕ) × (q < length l.numbers) × (slice_index l.numbers q ≡ l.least);
    }
