use Rattle.std.proofs.Common.{◌-◌, length, slice_index}
use Rattle.chain_refinement.specs.Refinement.{height_at}
use Rattle.refinement_search.proofs.Readings.{AreReadFrom}
use Rattle.refinement_search.proofs.read.write_cuts.Given as goal

abbrev pub invariant-loop-b : goal.invariant-loop-b
invariant-loop-b g l =
    AreReadFrom (length l.rows) l.present (length l.starts - 1) (slice_index l.starts) (height_at l.rows) l.cuts l.b

abbrev pub decreases-loop-b : goal.decreases-loop-b
decreases-loop-b g l = l.b
