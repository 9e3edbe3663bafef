use Rattle.any_order.specs.Internal.{IsAt, RisesBelow}
use Rattle.any_order.proofs.steep.first_block.Given as goal

abbrev pub invariant-loop-y : goal.invariant-loop-y
invariant-loop-y l =
    record {
      risen : RisesBelow l.claim l.y;
      low : IsAt l.claim.any l.claim.free l.y l.low;
      high : IsAt l.claim.next_any l.claim.next_free l.y l.high;
    }
