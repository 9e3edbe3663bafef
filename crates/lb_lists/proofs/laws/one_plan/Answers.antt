use Rattle.lb_lists.proofs.OnePlan.{plan_once}
use Rattle.lb_lists.proofs.laws.one_plan.Goals as goal

pub returns : goal.returns
returns c = record { same_plan = plan_once }
