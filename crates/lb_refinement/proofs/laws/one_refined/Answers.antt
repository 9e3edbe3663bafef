use Rattle.lb_refinement.proofs.OneRefined.{one_refined}
use Rattle.lb_refinement.proofs.laws.one_refined.Goals as goal

pub returns : goal.returns
returns g c = record { one_refined = one_refined }
