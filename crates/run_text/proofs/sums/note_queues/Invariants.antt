use Rattle.std.proofs.Common.{◌≡◌, map, take}
use Rattle.std.specs.List.{flat_map}
use Rattle.run_account.specs.Noting.{with_noted}
use Rattle.run_text.specs.Sums.{sums_in}
use Rattle.run_text.proofs.sums.note_queues.Given as goal

abbrev pub invariant-loop-queue : goal.invariant-loop-queue
invariant-loop-queue g l =
    l.sums ≡ with_noted l.initial.sums (flat_map (flat_map sums_in) (take l.queue-index (map (λ queue. queue.items) l.queues)))
