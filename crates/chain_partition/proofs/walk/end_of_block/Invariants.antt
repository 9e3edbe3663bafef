use Rattle.std.proofs.Common.{◌-◌}
use Rattle.chain_partition.specs.Greedy.{IsBracket}
use Rattle.chain_partition.proofs.walk.end_of_block.Given as goal

abbrev pub invariant-loop-block : goal.invariant-loop-block
invariant-loop-block l = IsBracket l.loads l.first l.limit l.block.end l.block.load l.beyond

abbrev pub decreases-loop-block : goal.decreases-loop-block
decreases-loop-block l = l.beyond - l.block.end
