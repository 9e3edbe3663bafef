use Rattle.std.proofs.Common.{◌≡◌, ◌+◌, ◌<◌, length, slice_index}
use Rattle.merged_refinement.specs.Rows.{AreLeastFrom, sum_by_row}
use Rattle.merged_refinement.proofs.row.write_heights.Given as goal

abbrev pub invariant-loop-i : goal.invariant-loop-i
invariant-loop-i g l =
    record {
      counted : length l.heights ≡ length l.fn.heights;
      inside : l.i < length l.heights;
      least_is : l.least ≡ slice_index l.heights l.i;
      written : AreLeastFrom (λ i. sum_by_row l.below l.bytes l.sums (l.sums.near + i)) l.heights l.i;
    }

abbrev pub decreases-loop-i : goal.decreases-loop-i
decreases-loop-i g l = l.i
