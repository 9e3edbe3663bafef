use Rattle.std.proofs.Common.{subst}
use Rattle.lb_snapshot.specs.Measured.{IsLoads}
use Rattle.chain_refinement.proofs.Limits.{bottleneck_small}
use Rattle.lb_any_order.proofs.search.reorder.Goals as goal

pub limit-limit-requires : goal.limit-limit-requires
limit-limit-requires g c =
    let measured : IsLoads c.args.snapshot.now.loads = subst IsLoads c.loads.ensures.value c.as_slice-loads.ensures.within_limits in
    record { small = bottleneck_small c.args.snapshot.now.loads c.args.pes c.args.least measured c.requires.certified }
