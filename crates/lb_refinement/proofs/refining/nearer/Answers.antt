use Rattle.std.proofs.Common.{inl, rules}
use Rattle.chain_refinement.specs.NoOrders.{HasNoOrder}
use Rattle.lb_refinement.specs.Refined.{as_planned}
use Rattle.lb_refinement.proofs.OneRefined.{the_plan}
use Rattle.lb_refinement.proofs.RefinedCases.{bounded, cheaper_is, decided_within}
use Rattle.lb_refinement.proofs.refining.nearer.Goals as goal

pub returns-in_default : goal.returns-in_default
returns-in_default g c =
    let s = c.args.snapshot.now in
    let none : HasNoOrder s.sizes c.args.pes = search rules in
    let plan = the_plan s.loads s.sizes c.args.pes c.args.planned c.requires.planned in
    record { decided = rw c.as_planned.ensures.value (decided_within s.loads s.sizes c.args.pes c.args.tolerance (as_planned c.args.planned) (plan, inl none) c.requires.planned.bounded) }

pub returns : goal.returns
returns g c =
    let s = c.args.snapshot.now in
    let plan = the_plan s.loads s.sizes c.args.pes c.args.planned c.requires.planned in
    let kept = c.in_ok-kept.ensures.kept in
    let refined = cheaper_is s.loads s.sizes c.args.pes c.args.tolerance c.args.planned c.in_ok-kept.kept c.cheaper.result plan kept c.cheaper.ensures in
    let prices = bounded s.loads s.sizes c.args.pes c.args.tolerance c.args.planned c.in_ok-kept.kept c.cheaper.result c.requires.planned.bounded kept c.cheaper.ensures in
    record { decided = decided_within s.loads s.sizes c.args.pes c.args.tolerance c.cheaper.result refined prices }
