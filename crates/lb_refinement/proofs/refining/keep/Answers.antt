use Rattle.lb_refinement.proofs.RefinedBlocks.{refined_blocks}
use Rattle.lb_refinement.proofs.refining.keep.Goals as goal

pub with_names-requires : goal.with_names-requires
with_names-requires g c =
    let s = c.args.snapshot.now in
    record {
      blocks = rw (c.sizes-sizes.ensures.value, c.split-cuts.ensures.cuts)
          (refined_blocks s.loads s.sizes _ c.in_ok-refinement.refinement c.in_ok-refinement.ensures.refinement c.sizes-sizes.ensures.paired);
    }
