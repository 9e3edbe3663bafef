use Rattle.std.proofs.Common.{◌-◌, length}
use Rattle.chain_refinement.specs.Walks.{IsClimbed}
use Rattle.chain_refinement.proofs.walk.climbed.Given as goal

abbrev pub invariant-loop-next : goal.invariant-loop-next
invariant-loop-next l = IsClimbed l.steps l.to l.next l.height

abbrev pub decreases-loop-next : goal.decreases-loop-next
decreases-loop-next l = length l.steps - l.next
