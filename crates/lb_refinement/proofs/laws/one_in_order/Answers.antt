use Rattle.lb_refinement.proofs.InOrderCases.{one_in_order}
use Rattle.lb_refinement.proofs.laws.one_in_order.Goals as goal

pub returns : goal.returns
returns g c = record { one_in_order = one_in_order }
