use Rattle.std.proofs.Common.{◌≡◌, ◌≢◌, ◌⊎◌, ℕ, ◌+◌, ◌-◌, ◌^◌, ◌<◌, ◌≤◌, length, slice_index}
use Rattle.block_assignment.proofs.auction.best_bid.Given as goal

-- Before `at` all cost as much as the least, and all others as much as the second. The least is what the PE costs, or more than
-- the likely ones do.
abbrev pub invariant-loop-at : goal.invariant-loop-at
invariant-loop-at l =
    record {
      inside : l.pe < length l.row;
      next_inside : l.next < length l.row;
      order : l.least ≤ l.second;
      small : l.second ≤ 2 ^ 48 + 1;
      within : l.at ≤ length l.row;
      is : (l.least ≡ slice_index l.row l.pe + slice_index l.discount l.pe) ⊎ (slice_index l.row l.best + slice_index l.discount l.best < l.least);
      low : (q : ℕ) → q < l.at → l.least ≤ slice_index l.row q + slice_index l.discount q;
      next : (q : ℕ) → q < l.at → q ≢ l.pe → l.second ≤ slice_index l.row q + slice_index l.discount q;
      below : l.at < length l.row → slice_index l.row l.at + slice_index l.discount l.at < l.second;
    }

abbrev pub decreases-loop-at : goal.decreases-loop-at
decreases-loop-at l = length l.row - l.at
