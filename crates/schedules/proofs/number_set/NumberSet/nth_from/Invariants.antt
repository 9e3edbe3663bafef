use Rattle.std.proofs.Common.{◌≡◌, ◌+◌}
use Rattle.schedules.specs.NumberSets.{below}
use Rattle.schedules.proofs.number_set.NumberSet.nth_from.Given as goal

abbrev pub invariant-loop-at : goal.invariant-loop-at
invariant-loop-at g l = l.left + below l.self l.at ≡ below l.self l.first + l.place
