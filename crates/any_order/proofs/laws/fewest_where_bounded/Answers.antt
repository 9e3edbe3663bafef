use Rattle.any_order.proofs.LowerBounds.{fewest_from_bounds}
use Rattle.any_order.proofs.laws.fewest_where_bounded.Goals as goal

pub returns : goal.returns
returns c = record { fewest_where_bounded = fewest_from_bounds }
