use Rattle.chain_refinement.proofs.CutCosts.{moved_by_cuts}
use Rattle.chain_refinement.proofs.laws.moved_by_cuts.Goals as goal

pub returns : goal.returns
returns c = record { moved_by_cuts = moved_by_cuts }
