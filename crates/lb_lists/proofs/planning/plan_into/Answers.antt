use Rattle.std.proofs.Common.{length, ap, ◌∙◌}
use Rattle.lb_lists.proofs.Plans.{plan_from}
use Rattle.lb_lists.proofs.planning.plan_into.Goals as goal

pub returns-clause-planned : goal.returns-clause-planned
returns-clause-planned g c =
    let found = c.in-Ok.ensures in
    let written = c.write_plan-planned.ensures in
    plan_from c.args.run.now c.args.pes c.in-Ok.plan.division c.in-Ok.plan.naming c.write_plan-planned.new.new_places _ _
    (length c.args.new_places.now) found.certified found.chosen found.least_naming written.bottleneck (written.moved ∙ found.moved)
    (c.if-new_places-run.false ∙ ap (λ r. length r.loads) c.run.view_is) written.placed
