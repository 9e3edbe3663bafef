use Rattle.chain_refinement.specs.Internal.{AreGentle, IsBase}
use Rattle.chain_refinement.proofs.steep.first_steep_in_order.Given as goal

abbrev pub invariant-loop-b : goal.invariant-loop-b
invariant-loop-b g l = record { base : IsBase l.claim l.base; gentle : AreGentle l.claim l.b }
