use Rattle.std.proofs.Common.{length, ap, refl, ◌∙◌}
use Rattle.lb_lists.proofs.Plans.{chosen_written, plan_from, right_written}
use Rattle.lb_lists.proofs.deciding.decide_into.Goals as goal

pub returns-clause-planned : goal.returns-clause-planned
returns-clause-planned g c =
    let found = c.in-Ok.ensures in
    let written = c.write_decision-decided.ensures in
    plan_from c.args.run.now c.args.pes c.in-Ok.plan.division c.in-Ok.plan.naming c.write_decision-decided.new.room.new_places.now _ _
    (length c.args.room.now.new_places.now) found.certified found.chosen found.least_naming written.bottleneck
    (written.moved ∙ found.moved) ((c.if-not-has_room.ensures.0 refl).new_places ∙ ap (λ r. length r.loads) c.run.view_is) written.placed

pub returns-clause-right : goal.returns-clause-right
returns-clause-right g c =
    let found = c.in-Ok.ensures in
    let written = c.write_decision-decided.ensures in
    right_written c.args.run.now c.args.pes c.in-Ok.plan.division c.in-Ok.plan.naming c.in-Ok.plan.prices.u c.in-Ok.plan.prices.v
    (length c.args.room.now.new_places.now) _ found.certified found.named written.bottleneck (written.moved ∙ found.moved)
    ((c.if-not-has_room.ensures.0 refl).new_places ∙ ap (λ r. length r.loads) c.run.view_is) written.placed written.cuts written.stops
    written.names written.block_prices written.pe_prices

pub returns-clause-chosen : goal.returns-clause-chosen
returns-clause-chosen g c =
    let written = c.write_decision-decided.ensures in
    chosen_written c.args.run.now c.args.pes c.in-Ok.plan.division _ _ _ c.in-Ok.ensures.chosen written.bottleneck written.cuts written.stops
