use Rattle.std.proofs.Common.{◌≡◌}
use Rattle.queue_rows.proofs.threads.work.Given as goal

abbrev pub invariant-loop-i : goal.invariant-loop-i
invariant-loop-i g l = l.worker.seat.post ≡ l.post
