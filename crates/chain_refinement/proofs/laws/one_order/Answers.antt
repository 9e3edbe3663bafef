use Rattle.chain_refinement.proofs.OneOrder.{one_order}
use Rattle.chain_refinement.proofs.laws.one_order.Goals as goal

pub returns : goal.returns
returns c = record { one_order = one_order }
