use Rattle.std.proofs.Common.{◌≡◌, ◌+◌, length, drop, map}
use Rattle.std.specs.List.{flat_map}
use Rattle.rts_core.specs.Places.{letters_in}
use Rattle.rts_run.proofs.counting.queued_in.Given as goal

abbrev pub invariant-loop-queue : goal.invariant-loop-queue
invariant-loop-queue g l = l.queued + length (flat_map (flat_map letters_in) (map (λ q. q.items) (drop l.queue-index l.queues))) ≡ length
    (flat_map (flat_map letters_in) (map (λ q. q.items) l.queues))
