use Rattle.std.proofs.Common.{ℕ, ◌^◌, ◌<◌, ◌≤◌, slice_index}
use Rattle.block_assignment.specs.Discounted.{ArePes}
use Rattle.block_assignment.proofs.auction.bid_in_rounds.Given as goal

abbrev pub invariant-loop : goal.invariant-loop
invariant-loop l =
    record {
      small : (p : ℕ) → p < l.table.blocks → slice_index l.discount p ≤ l.most;
      some : 1 ≤ l.step;
      step : l.step ≤ 2 ^ 48;
      best : ArePes l.table.blocks l.best;
      next : ArePes l.table.blocks l.next;
    }
