use Rattle.std.proofs.Common.{ℕ, ◌<◌, ◌≤◌}
use Rattle.chain_refinement.specs.Internal.{IsGentle, IsPlace}
use Rattle.chain_refinement.proofs.few_places.is_gentle_walk.Given as goal

abbrev pub invariant-loop-x : goal.invariant-loop-x
invariant-loop-x g l =
    record {
      here : IsPlace l.claim l.b l.x l.place;
      gentle : (z : ℕ) → l.from ≤ z → z < l.x → IsGentle l.claim l.b z;
    }
