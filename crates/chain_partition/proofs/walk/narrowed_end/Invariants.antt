use Rattle.std.proofs.Common.{◌-◌}
use Rattle.chain_partition.specs.Greedy.{IsBracket}
use Rattle.chain_partition.proofs.walk.narrowed_end.Given as goal

abbrev pub invariant-loop-beyond : goal.invariant-loop-beyond
invariant-loop-beyond l = IsBracket l.loads l.first l.limit l.fits l.load l.beyond

abbrev pub decreases-loop-beyond : goal.decreases-loop-beyond
decreases-loop-beyond l = l.beyond - l.fits
