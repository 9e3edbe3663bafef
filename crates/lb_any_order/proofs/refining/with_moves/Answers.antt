use Rattle.std.proofs.Common.{length, subst}
use Rattle.lb_certificates.specs.Chain.{IsDivision}
use Rattle.lb_any_order.proofs.Cases.{blocks_of_plan, division_of_plan, naming_of_plan, place_below}
use Rattle.lb_any_order.proofs.refining.with_moves.Goals as goal

pub moved_by-moved-requires-clause-divides : goal.moved_by-moved-requires-clause-divides
moved_by-moved-requires-clause-divides g c =
    rw (c.as_slice-sizes.ensures.value, c.sizes.ensures.value, c.as_slice-cuts.ensures.value, c.as_slice-names.ensures.value)
    (division_of_plan c.args.snapshot.now.loads c.args.snapshot.now.sizes c.args.pes c.args.reordered c.sizes.ensures.paired c.requires.right)

pub moves_of-requires-clause-blocks : goal.moves_of-requires-clause-blocks
moves_of-requires-clause-blocks g c =
    rw (c.as_slice-sizes.ensures.value, c.sizes.ensures.value, c.as_slice-cuts.ensures.value)
    (blocks_of_plan c.args.snapshot.now.loads c.args.snapshot.now.sizes c.args.pes c.args.reordered c.sizes.ensures.paired c.requires.right)

pub moves_of-requires-clause-naming : goal.moves_of-requires-clause-naming
moves_of-requires-clause-naming g c =
    rw (c.as_slice-cuts.ensures.value, c.as_slice-names.ensures.value)
    (naming_of_plan c.args.snapshot.now.loads c.args.snapshot.now.sizes c.args.pes c.args.reordered c.requires.right)

pub returns-clause-places : goal.returns-clause-places
returns-clause-places g c =
    let r = c.args.reordered in
    let right = c.requires.right in
    rw (c.split-cuts.ensures.cuts, c.split-cuts.ensures.names) (place_below (length c.args.snapshot.now.sizes) c.args.pes r.cuts r.names
    (subst (λ n. IsDivision 0 n c.args.pes r.cuts) c.sizes.ensures.paired right.plan.divides) right.plan.naming right.few_pes)
