use Rattle.std.proofs.Common.{◌↔◌, All, drop, map}
use Rattle.round_marks.specs.Runs.{IsMarkedParcel}
use Rattle.round_marks.proofs.run.queues_agree.Given as goal

abbrev pub invariant-loop-queue : goal.invariant-loop-queue
invariant-loop-queue g l = All (All (IsMarkedParcel l.board l.homes)) (map (λ queue. queue.items) (drop l.queue-index l.queues)) ↔ All
    (All (IsMarkedParcel l.board l.homes)) (map (λ queue. queue.items) l.queues)
