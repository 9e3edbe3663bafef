use Rattle.std.proofs.Common.{◌≡◌, ◌++◌, length, map}
use Rattle.schedules.proofs.leaving.left_in.Given as goal

abbrev pub invariant-loop-queue : goal.invariant-loop-queue
invariant-loop-queue g l = map (λ q. q.items) l.left.items ++ l.queues.items ≡ l.fn.queues.items

abbrev pub decreases-loop-queue : goal.decreases-loop-queue
decreases-loop-queue g l = length l.queues.items
