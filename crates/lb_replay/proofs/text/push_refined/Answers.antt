use Rattle.chain_refinement.proofs.Limits.{bottleneck_small}
use Rattle.lb_refinement.specs.Refined.{refined_least}
use Rattle.lb_replay.proofs.text.push_refined.Goals as goal

pub limit-requires : goal.limit-requires
limit-requires g c =
    let s = c.args.snapshot.now in
    record {
      small = rw c.least-least.ensures.value (bottleneck_small s.loads c.args.pes (refined_least c.args.decision.now)
          (rw c.loads-loads.ensures.value at c.as_slice.ensures.within_limits) c.requires.printable.certified);
    }
