use Rattle.any_order.proofs.Corners.{few_places}
use Rattle.any_order.proofs.laws.corners_are_enough.Goals as goal

pub returns : goal.returns
returns c = record { corners_are_enough = few_places }
