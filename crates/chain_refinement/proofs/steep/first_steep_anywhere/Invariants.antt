use Rattle.chain_refinement.specs.Internal.{AreGentle}
use Rattle.chain_refinement.proofs.steep.first_steep_anywhere.Given as goal

abbrev pub invariant-loop-b : goal.invariant-loop-b
invariant-loop-b g l = AreGentle l.claim l.b
