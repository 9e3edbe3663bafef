use Rattle.std.proofs.Common.{◌-◌, ◌≤◌, length}
use Rattle.chain_refinement.specs.Walks.{IsWindow}
use Rattle.chain_refinement.proofs.few_places.slid_to.Given as goal

abbrev pub invariant-loop-end : goal.invariant-loop-end
invariant-loop-end g l =
    record {
      inside : l.end ≤ length l.claim.loads;
      window : IsWindow l.claim.loads l.end l.claim.limit l.window.start l.window.weight;
    }

abbrev pub decreases-loop-end : goal.decreases-loop-end
decreases-loop-end g l = l.cut - l.end
