use Rattle.std.proofs.Common.{◌-◌, length}
use Rattle.any_order.specs.Internal.{IsReached}
use Rattle.any_order.proofs.follow.followed.Given as goal

abbrev pub invariant-loop-next : goal.invariant-loop-next
invariant-loop-next l = IsReached l.steps l.x (record { next = l.next; level = l.level })

abbrev pub decreases-loop-next : goal.decreases-loop-next
decreases-loop-next l = length l.steps - l.next
