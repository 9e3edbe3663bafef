use Rattle.std.proofs.Common.{◌≡◌, ◌<◌, ◌≤◌}
use Rattle.std.specs.List.{between, zip}
use Rattle.lb_lists.proofs.steps.pairs_between.Given as goal

abbrev pub invariant-loop-i : goal.invariant-loop-i
invariant-loop-i g l =
    record {
      row : l.pairs.items ≡ between l.first l.i (zip l.places l.rises);
      from : l.first ≤ l.i;
      inside : l.first ≤ l.last → l.i ≤ l.last;
      unmoved : l.last < l.first → l.i ≡ l.first;
    }
