use Rattle.std.proofs.Common.{◌≡◌, ◌+◌, ◌*◌}
use Rattle.schedules.specs.NumberSets.{below}
use Rattle.schedules.proofs.number_set.NumberSet.nth.Given as goal

abbrev pub invariant-loop-block : goal.invariant-loop-block
invariant-loop-block g l = l.left + below l.self (l.block * 256) ≡ l.place
