use Rattle.any_order.specs.Internal.{RisesUpTo}
use Rattle.any_order.proofs.steep.first_steep.Given as goal

abbrev pub invariant-loop-b : goal.invariant-loop-b
invariant-loop-b g l = RisesUpTo l.bounded l.b
