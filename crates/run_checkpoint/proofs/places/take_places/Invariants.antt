use Rattle.std.proofs.Common.{length}
use Rattle.run_checkpoint.proofs.PlacesLine.{Taken}
use Rattle.run_checkpoint.proofs.places.take_places.Given as goal

abbrev pub invariant-loop-place : goal.invariant-loop-place
invariant-loop-place g l = Taken l.bytes l.past l.places.items l.rest

abbrev pub decreases-loop-place : goal.decreases-loop-place
decreases-loop-place g l = length l.rest
