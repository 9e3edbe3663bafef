use Rattle.std.proofs.Common.{slice_index}
use Rattle.merged_refinement.specs.Rows.{cost_by}
use Rattle.merged_refinement.proofs.Rows.{row_of}
use Rattle.merged_refinement.proofs.row.row_over.Goals as goal

pub returns : goal.returns
returns g c =
    let sums = c.args.sums.now in
    let heights = c.in_ok-heights.heights.items in
    record {
      row = rw c.new.ensures.value (row_of sums.near sums.far (slice_index sums.starts.now) (cost_by c.args.bytes.now sums) c.args.below.now
          heights c.requires.sums.some c.in_ok-heights.ensures.counted c.in_ok-heights.ensures.least);
    }
