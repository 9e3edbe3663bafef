use Rattle.std.proofs.Common.{◌≡◌, ℕ, ◌<◌, ◌≤◌, Some, None, length, slice_index, slice_index_or}
use Rattle.block_assignment.specs.Discounted.{ArePes}
use Rattle.block_assignment.proofs.auction.make_bids.Given as goal

abbrev pub invariant-loop-used : goal.invariant-loop-used
invariant-loop-used l =
    record {
      count : l.count ≤ length l.waiting;
      small : (p : ℕ) → p < l.table.blocks → slice_index l.discount p ≤ l.most;
      held : (p b : ℕ) → slice_index_or l.holders p None ≡ Some b → b < l.table.blocks;
      below : (i : ℕ) → i < length l.waiting → slice_index l.waiting i < l.table.blocks;
      best : ArePes l.table.blocks l.best;
      next : ArePes l.table.blocks l.next;
    }
