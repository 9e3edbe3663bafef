use Rattle.std.proofs.Common.{◌-◌, ◌≤◌, slice_index}
use Rattle.refinement_search.proofs.spans.reached.Given as goal

abbrev pub invariant-loop-x : goal.invariant-loop-x
invariant-loop-x l =
    record {
      onward : l.from ≤ l.x;
      to : l.x ≤ l.cut;
      reached : slice_index l.starts l.x ≤ l.from;
    }

abbrev pub decreases-loop-x : goal.decreases-loop-x
decreases-loop-x l = l.cut - l.x
