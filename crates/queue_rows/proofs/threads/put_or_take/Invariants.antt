use Rattle.std.proofs.Common.{◌≡◌}
use Rattle.queue_rows.proofs.threads.put_or_take.Given as goal

abbrev pub invariant-loop : goal.invariant-loop
invariant-loop g l = l.worker.seat.post ≡ l.post
