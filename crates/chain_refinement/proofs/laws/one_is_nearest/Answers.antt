use Rattle.chain_refinement.proofs.Nearest.{one_is_nearest}
use Rattle.chain_refinement.proofs.laws.one_is_nearest.Goals as goal

pub returns : goal.returns
returns c = record { one_is_nearest = one_is_nearest }
