use Rattle.std.proofs.Common.{length, slice_index}
use Rattle.refinement_search.proofs.RowPlaces.{AreNearsTo}
use Rattle.refinement_search.proofs.spans.write_near.Given as goal

abbrev pub invariant-loop-b : goal.invariant-loop-b
invariant-loop-b l =
    AreNearsTo l.present (length l.fn.near) (slice_index l.starts) l.near l.b
