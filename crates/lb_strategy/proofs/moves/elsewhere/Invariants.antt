use Rattle.std.proofs.Common.{◌≤◌}
use Rattle.lb_strategy.proofs.moves.elsewhere.Given as goal

abbrev pub invariant-loop-present : goal.invariant-loop-present
invariant-loop-present l = l.count ≤ l.present-index
