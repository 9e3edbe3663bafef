use Rattle.std.proofs.Common.{refl}
use Rattle.load_report.specs.Text.{planned_text}
use Rattle.dump_report.proofs.dump_text.push_plan.Goals as goal

pub returns-clause-plan : goal.returns-clause-plan
returns-clause-plan g c =
    let plan = rw c.get-number.ensures.value at c.in_ok-decision.ensures.planned in (
      planned_text c.args.style c.args.name.now c.args.snapshot.now c.args.pes c.in_ok-decision.decision,
      record {
        decision = c.in_ok-decision.decision;
        chosen = plan.chosen;
        least = plan.least_naming;
        right = plan.right;
        printed = refl;
      },
      rw c.get-number.ensures.value at c.in_ok-push_planned.ensures.text,
    )
