use Rattle.std.proofs.Common.{length, slice_index}
use Rattle.merged_refinement.specs.Rows.{rows_at}
use Rattle.merged_refinement.proofs.Readings.{AreReadFrom}
use Rattle.merged_refinement.proofs.reading.write_cuts.Given as goal

abbrev pub invariant-loop-b : goal.invariant-loop-b
invariant-loop-b g l =
    AreReadFrom (length l.rows) l.present l.elements (slice_index l.starts) (rows_at l.rows) l.cuts l.b

abbrev pub decreases-loop-b : goal.decreases-loop-b
decreases-loop-b g l = l.b
