use Rattle.std.proofs.Common.{◌+◌}
use Rattle.chain_refinement.specs.Internal.{AllGentle, IsPlace}
use Rattle.chain_refinement.proofs.steep.first_steep_place.Given as goal

abbrev pub invariant-loop-x : goal.invariant-loop-x
invariant-loop-x g l =
    record {
      here : IsPlace l.claim l.b l.x l.place;
      gentle : AllGentle l.claim l.b (l.x + 1);
    }
