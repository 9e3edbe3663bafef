use Rattle.std.proofs.Common.{◌∙◌, length, subst}
use Rattle.lb_snapshot.specs.Measured.{IsLoads}
use Rattle.refinement_search.proofs.Within.{bottleneck_small, within_tolerance}
use Rattle.refinement_search.proofs.search.refine_in_order.Goals as goal

pub limit-limit-requires : goal.limit-limit-requires
limit-limit-requires g c =
    let loads : IsLoads c.args.snapshot.now.loads = subst IsLoads c.loads.ensures.value c.as_slice-loads.ensures.within_limits in
    record { small = bottleneck_small c.args.snapshot.now.loads (length c.args.order) c.args.least loads c.requires.certified }

pub search-requires-clause-some_within : goal.search-requires-clause-some_within
search-requires-clause-some_within g c =
    let loads = c.as_slice-loads.ensures.value ∙ c.loads.ensures.value in (
      c.args.least.cuts,
      rw (loads, c.as_slice.ensures.value, c.limit-limit.ensures.value)
          (within_tolerance c.args.snapshot.now.loads c.args.order c.args.tolerance c.args.least c.requires.certified),
    )
