use Rattle.std.proofs.Common.{◌≡◌, ◌∙◌, ℕ, ap, length, subst}
use Rattle.lb_database.specs.Measuring.{elements}
use Rattle.rts_run.specs.Configs.{IsFirstOutside}
use Rattle.carried_runs.proofs.carrying.carry_on.Goals as goal

pub returns-in-Some-clause-answer : goal.returns-in-Some-clause-answer
returns-in-Some-clause-answer g c =
    let same : c.len.result ≡ length c.args.opening.now.value.items = c.len.ensures.value ∙ (ap (λ b. elements b.database) c.board.ensures.value ∙ c.requires.earlier.elements) in
    (c.in-Some._setting, subst (λ (n : ℕ). IsFirstOutside c.args.config.now n c.in-Some._setting) same c.in-Some.ensures.answer)
