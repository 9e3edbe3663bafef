use Rattle.std.proofs.Common.{◌≡◌, ℕ, ◌<◌, ◌≤◌, get_or}
use Rattle.merged_chains.specs.declared.walk.Walk.{Walk}
use Rattle.merged_chains.specs.Walks.{WalksOn}
use Rattle.merged_chains.proofs.walk.walk_all_on.Given as goal

abbrev pub invariant-loop-walk : goal.invariant-loop-walk
invariant-loop-walk g l =
    record {
      kept : (i : ℕ) (d : Walk) → l.walk-index ≤ i → get_or l.walks i d ≡ get_or l.fn.walks i d;
      walked : (i : ℕ) (d : Walk) → i < l.walk-index → WalksOn l.part l.pes (get_or l.fn.walks i d) (get_or l.walks i d);
    }
