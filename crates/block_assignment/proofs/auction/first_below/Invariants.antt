use Rattle.std.proofs.Common.{ℕ, ◌+◌, ◌<◌, ◌≤◌, slice_index}
use Rattle.block_assignment.proofs.auction.first_below.Given as goal

abbrev pub invariant-loop-p : goal.invariant-loop-p
invariant-loop-p l =
    record {
      begun : l.from ≤ l.p;
      others : (q : ℕ) → l.from ≤ q → q < l.p → l.limit ≤ slice_index l.row q + slice_index l.discount q;
    }
