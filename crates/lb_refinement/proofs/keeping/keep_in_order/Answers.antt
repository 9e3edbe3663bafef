use Rattle.lb_refinement.proofs.RefinedBlocks.{ordered_naming, refined_blocks}
use Rattle.lb_refinement.proofs.keeping.keep_in_order.Goals as goal

pub with_order-requires-clause-blocks : goal.with_order-requires-clause-blocks
with_order-requires-clause-blocks g c =
    let s = c.args.snapshot.now in
    rw (c.sizes.ensures.value, c.split-cuts.ensures.cuts)
    (refined_blocks s.loads s.sizes _ c.in_ok-refinement.refinement c.in_ok-refinement.ensures.refinement c.sizes.ensures.paired)

pub with_order-requires-clause-naming : goal.with_order-requires-clause-naming
with_order-requires-clause-naming g c =
    let s = c.args.snapshot.now in
    rw (c.in_ok-names.ensures.copied, c.split-cuts.ensures.order, c.split-cuts.ensures.cuts)
    (ordered_naming s.loads s.sizes _ c.in_ok-refinement.refinement c.in_ok-refinement.ensures.refinement)
