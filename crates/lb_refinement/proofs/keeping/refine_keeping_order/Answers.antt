use Rattle.std.proofs.Common.{rules}
use Rattle.lb_strategy.proofs.RightDecisions.{place_from_right}
use Rattle.chain_refinement.specs.NoOrders.{HasNoOrder}
use Rattle.lb_refinement.specs.Refined.{as_kept}
use Rattle.lb_refinement.proofs.OneRefined.{the_plan}
use Rattle.lb_refinement.proofs.InOrderCases.{keeps_order, nearest, places, whole, within}
use Rattle.lb_refinement.proofs.keeping.refine_keeping_order.Goals as goal

pub returns-in_default-clause-refined : goal.returns-in_default-clause-refined
returns-in_default-clause-refined g c =
    let s = c.args.snapshot.now in
    let none : HasNoOrder s.sizes c.args.pes = search rules in
    rw c.as_planned.ensures.value (the_plan s.loads s.sizes c.args.pes c.in_ok-planned.field-0 c.in_ok-planned.ensures.planned, none)

pub returns-in_default-clause-keeps_order : goal.returns-in_default-clause-keeps_order
returns-in_default-clause-keeps_order g c names present order =
    let s = c.args.snapshot.now in
    let none : HasNoOrder s.sizes c.args.pes = search rules in
    absurd (none names present order.naming order.in_order)

pub returns-in_default-clause-nearest : goal.returns-in_default-clause-nearest
returns-in_default-clause-nearest g c names present order =
    let s = c.args.snapshot.now in
    let none : HasNoOrder s.sizes c.args.pes = search rules in
    absurd (none names present order.naming order.in_order)

pub returns-in_default-clause-kept_whole : goal.returns-in_default-clause-kept_whole
returns-in_default-clause-kept_whole g c names present order inside =
    let s = c.args.snapshot.now in
    let none : HasNoOrder s.sizes c.args.pes = search rules in
    absurd (none names present order.naming order.in_order)

pub returns-in_default-clause-places : goal.returns-in_default-clause-places
returns-in_default-clause-places g c =
    let s = c.args.snapshot.now in
    rw c.as_planned.ensures.value (place_from_right s.loads s.sizes c.args.pes c.in_ok-planned.field-0 c.in_ok-planned.ensures.planned.right)

pub returns-clause-keeps_order : goal.returns-clause-keeps_order
returns-clause-keeps_order g c names present order =
    let s = c.args.snapshot.now in
    keeps_order s.loads s.sizes c.args.pes c.args.tolerance (as_kept _) names present c.in_ok-decision.ensures.kept order

pub returns-clause-nearest : goal.returns-clause-nearest
returns-clause-nearest g c names present order =
    let s = c.args.snapshot.now in
    nearest s.loads s.sizes c.args.pes c.args.tolerance (as_kept _) names present c.in_ok-decision.ensures.kept order

pub returns-clause-within : goal.returns-clause-within
returns-clause-within g c =
    let s = c.args.snapshot.now in
    within s.loads s.sizes c.args.pes c.args.tolerance (as_kept _) c.in_ok-decision.ensures.kept

pub returns-clause-kept_whole : goal.returns-clause-kept_whole
returns-clause-kept_whole g c names present order inside =
    let s = c.args.snapshot.now in
    whole s.loads s.sizes c.args.pes c.args.tolerance (as_kept _) names present c.in_ok-decision.ensures.kept order inside

pub returns-clause-places : goal.returns-clause-places
returns-clause-places g c =
    let s = c.args.snapshot.now in
    places s.loads s.sizes c.args.pes c.args.tolerance (as_kept _) c.get-blocks.ensures.few_pes c.sizes.ensures.paired c.in_ok-decision.ensures.kept
