use Rattle.std.proofs.Common.{◌∙◌}
use Rattle.std.proofs.lemmas.Result.{IfOk-weaker}
use Rattle.rts_run.proofs.running.run_as.Goals as goal

pub returns-clause-homes : goal.returns-clause-homes
returns-clause-homes g c = IfOk-weaker c.run_opened.result _ _ (λ o is. is ∙ c.in_ok-opened.ensures.homes) c.run_opened.ensures.homes
