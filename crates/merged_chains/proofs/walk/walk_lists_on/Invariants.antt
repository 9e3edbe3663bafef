use Rattle.std.proofs.Common.{◌≡◌, ℕ, ◌<◌, ◌≤◌, length, slice_index}
use Rattle.merged_chains.specs.Narrowing.{walk_at}
use Rattle.merged_chains.specs.Walks.{WalksOn}
use Rattle.merged_chains.proofs.walk.walk_lists_on.Given as goal

abbrev pub invariant-loop-i : goal.invariant-loop-i
invariant-loop-i g l =
    record {
      closed_room : length l.closed ≡ length l.limits;
      filled_room : length l.filled ≡ length l.limits;
      closed_kept : (k : ℕ) → l.i ≤ k → slice_index l.closed k ≡ slice_index l.fn.closed k;
      filled_kept : (k : ℕ) → l.i ≤ k → slice_index l.filled k ≡ slice_index l.fn.filled k;
      walked : (k : ℕ) → k < l.i → WalksOn l.part l.pes (walk_at l.limits l.fn.closed l.fn.filled k) (walk_at l.limits l.closed l.filled k);
    }
