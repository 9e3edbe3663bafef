use Rattle.std.proofs.Common.{◌≡◌, arith, ap, length}
use Rattle.std.specs.List.{flat_map}
use Rattle.rts_core.specs.Places.{letters_in}
use Rattle.rts_run.proofs.Counts.{queued_rest, queued_end}
use Rattle.rts_run.proofs.counting.queued_in.Goals as goal

pub among-queued-requires : goal.among-queued-requires
among-queued-requires g c =
    let next = queued_rest c.args.queues.now c.loop-queue.queue-index c.queue-item.result (omega arith) c.queue-item.is in
    let same : length (flat_map letters_in c.deref.result.now) ≡ length (flat_map letters_in c.queue-item.result.items) = ap
    (λ q. length (flat_map letters_in q)) c.deref.ensures.value in
    record { few = omega (arith, c.loop-queue.invariant, c.requires.few, next, same) }

pub overflow_add-queued : goal.overflow_add-queued
overflow_add-queued g c =
    let next = queued_rest c.args.queues.now c.loop-queue.queue-index c.queue-item.result (omega arith) c.queue-item.is in
    let same : length (flat_map letters_in c.deref.result.now) ≡ length (flat_map letters_in c.queue-item.result.items) = ap
    (λ q. length (flat_map letters_in q)) c.deref.ensures.value in
    omega (arith, c.loop-queue.invariant, c.requires.few, c.among-queued.ensures.value, next, same)

pub loop-queue-preserved : goal.loop-queue-preserved
loop-queue-preserved g c =
    let next = queued_rest c.args.queues.now c.loop-queue.queue-index c.queue-item.result (omega arith) c.queue-item.is in
    let same : length (flat_map letters_in c.deref.result.now) ≡ length (flat_map letters_in c.queue-item.result.items) = ap
    (λ q. length (flat_map letters_in q)) c.deref.ensures.value in
    omega (arith, c.loop-queue.invariant, c.among-queued.ensures.value, next, same)

pub returns : goal.returns
returns g c = record { value = omega (arith, c.loop-queue.invariant, queued_end c.args.queues.now c.loop-queue.queue-index (omega arith)) }
