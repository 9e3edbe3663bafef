use Rattle.std.proofs.Common.{◌≡◌, [], ◌↔◌, All, drop, map}
use Rattle.round_marks.proofs.quiet.queues_are_empty.Given as goal

abbrev pub invariant-loop-queue : goal.invariant-loop-queue
invariant-loop-queue g l = All (λ queue. queue ≡ []) (map (λ queue. queue.items) (drop l.queue-index l.queues)) ↔ All (λ queue. queue ≡ []) (map (λ queue. queue.items) l.queues)
