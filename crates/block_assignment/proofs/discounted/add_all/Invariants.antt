use Rattle.std.proofs.Common.{◌≡◌, ℕ, ◌+◌, ◌<◌, ◌≤◌, slice_index}
use Rattle.block_assignment.proofs.discounted.add_all.Given as goal

abbrev pub invariant-loop-k : goal.invariant-loop-k
invariant-loop-k l =
    record {
      done : (q : ℕ) → q < l.k → slice_index l.numbers q ≡ slice_index l.more q + slice_index l.initial.numbers q;
      to_do : (q : ℕ) → l.k ≤ q → slice_index l.numbers q ≡ slice_index l.initial.numbers q;
    }
