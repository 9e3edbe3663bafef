use Rattle.std.proofs.lemmas.Result.{IfOk-weaker}
use Rattle.lb_replay.proofs.simulation.planned_text.Goals as goal

pub returns-in-Ok-clause-text : goal.returns-in-Ok-clause-text
returns-in-Ok-clause-text g c =
    let plan = rw c.get-number.ensures.value at c.in-Ok.ensures.planned in
    IfOk-weaker c.decision_text.result _ _ (λ text printed. record {
      decision = c.in-Ok.decision;
      chosen = plan.chosen;
      least = plan.least_naming;
      right = plan.right;
      printed = printed;
    }) (rw c.get-number.ensures.value at c.decision_text.ensures.text)
