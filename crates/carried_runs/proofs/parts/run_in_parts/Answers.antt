use Rattle.std.proofs.Common.{◌≡◌, ap, length, subst}
use Rattle.std.specs.Prelude.{MatchResult}
use Rattle.rts_run.specs.Configs.{MayBegin, RefusesRun}
use Rattle.carried_runs.proofs.parts.run_in_parts.Goals as goal

pub returns-clause-answer : goal.returns-clause-answer
returns-clause-answer g c =
    subst (λ chares. MatchResult c.go_on.result (λ _. MayBegin c.args.config.now (length chares)) (RefusesRun c.args.config.now (length chares)))
    (ap (λ v. v.items) c.of-opening.ensures) c.go_on.ensures.answer
