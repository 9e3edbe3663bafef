use Rattle.lb_lists.proofs.NearLeast.{near}
use Rattle.lb_lists.proofs.laws.near_least.Goals as goal

pub returns : goal.returns
returns c = record { near = near }
