use Rattle.std.proofs.Common.{◌∙◌}
use Rattle.std.proofs.lemmas.Result.{IfOk-weaker}
use Rattle.carried_runs.proofs.GoingOn.{goes_on_after}
use Rattle.carried_runs.proofs.parts.carry_on_in_parts.Goals as goal

pub returns-clause-homes : goal.returns-clause-homes
returns-clause-homes g c = IfOk-weaker c.go_on.result _ _ (λ o is. is ∙ c.in_ok-outcome.ensures.homes) c.go_on.ensures.homes

pub returns-clause-goes_on : goal.returns-clause-goes_on
returns-clause-goes_on g c = IfOk-weaker c.go_on.result _ _ (λ o is. goes_on_after c.args.outcome _ o c.in_ok-outcome.ensures.goes_on is) c.go_on.ensures.goes_on
