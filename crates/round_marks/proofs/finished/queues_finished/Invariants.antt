use Rattle.std.proofs.Common.{◌↔◌, All, drop, map}
use Rattle.round_marks.specs.Finished.{HasFinishedParcel}
use Rattle.round_marks.proofs.finished.queues_finished.Given as goal

abbrev pub invariant-loop-queue : goal.invariant-loop-queue
invariant-loop-queue g l = All (All HasFinishedParcel) (map (λ queue. queue.items) (drop l.queue-index l.queues)) ↔ All
    (All HasFinishedParcel) (map (λ queue. queue.items) l.queues)
