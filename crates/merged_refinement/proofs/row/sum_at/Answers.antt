use Rattle.std.proofs.Common.{◌+◌, arith, slice_index}
use Rattle.merged_refinement.proofs.StandingCosts.{cost_within}
use Rattle.merged_refinement.proofs.row.sum_at.Goals as goal

pub overflow_add-result : goal.overflow_add-result
overflow_add-result g c =
    let sums = c.args.sums.now in
    omega (
      arith,
      c.at.ensures.value,
      c.cost_at.ensures.value,
      c.requires.small (slice_index sums.starts.now (sums.near + c.args.i)),
      cost_within c.args.bytes.now sums.cut.before sums.cut.here sums.cut.behind (sums.near + c.args.i) c.requires.sums.ordered c.requires.sums.onward,
      c.requires.sums.light,
    )
