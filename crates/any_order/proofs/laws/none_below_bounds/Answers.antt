use Rattle.any_order.proofs.LowerBounds.{none_below}
use Rattle.any_order.proofs.laws.none_below_bounds.Goals as goal

pub returns : goal.returns
returns c = record { none_below_bounds = none_below }
