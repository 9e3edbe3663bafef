use Rattle.std.proofs.Common.{◌≡◌, ◌-◌, ◌<◌, length, slice_index}
use Rattle.refinement_search.specs.Spans.{AreFarsFrom}
use Rattle.refinement_search.proofs.spans.write_far.Given as goal

abbrev pub invariant-loop-b : goal.invariant-loop-b
invariant-loop-b l =
    record {
      inside : l.b < length l.fn.far;
      counted : length l.far ≡ length l.fn.far;
      fars : AreFarsFrom l.present (length l.fn.far) (length l.starts - 1) (slice_index l.starts) (slice_index l.far) l.b;
    }

abbrev pub decreases-loop-b : goal.decreases-loop-b
decreases-loop-b l = l.b
