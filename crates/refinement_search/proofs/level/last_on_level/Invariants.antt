use Rattle.std.proofs.Common.{◌≡◌, ◌-◌, ◌≤◌}
use Rattle.chain_refinement.specs.Refinement.{height}
use Rattle.chain_refinement.specs.Walks.{IsClimbed}
use Rattle.refinement_search.proofs.level.last_on_level.Given as goal

abbrev pub invariant-loop-cut : goal.invariant-loop-cut
invariant-loop-cut g l =
    record {
      from : l.low ≤ l.cut;
      to : l.cut ≤ l.far;
      climbed : IsClimbed l.steps l.cut l.climb.next l.climb.height;
      here : l.climb.height ≡ height l.steps l.cut;
      level : height l.steps l.cut ≡ height l.steps l.low;
    }

abbrev pub decreases-loop-cut : goal.decreases-loop-cut
decreases-loop-cut g l = l.far - l.cut
