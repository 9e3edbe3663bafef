use Rattle.std.proofs.Common.{arith}
use Rattle.rts_core.proofs.Counts.{queued_rest, queued_end, queue_parts}
use Rattle.rts_core.proofs.account.queued_in.Goals as goal

pub among-requires : goal.among-requires
among-requires g c =
    let next = queued_rest c.args.queues.now c.loop-queue.queue-index c.queue-item.result (omega arith) c.queue-item.is in
    let whole = queue_parts c.as_slices.result.0.now c.as_slices.result.1.now c.parcels.result.now.items c.queue-item.result c.as_slices.ensures.items c.parcels.ensures.value in
    record { few = omega (arith, c.loop-queue.invariant, c.requires.few, next, whole) }

pub among-requires-in-loop-queue : goal.among-requires-in-loop-queue
among-requires-in-loop-queue g c =
    let next = queued_rest c.args.queues.now c.loop-queue.queue-index c.queue-item.result (omega arith) c.queue-item.is in
    let whole = queue_parts c.as_slices.result.0.now c.as_slices.result.1.now c.parcels.result.now.items c.queue-item.result c.as_slices.ensures.items c.parcels.ensures.value in
    record { few = omega (arith, c.loop-queue.invariant, c.requires.few, next, whole) }

pub overflow_add-queued : goal.overflow_add-queued
overflow_add-queued g c =
    let next = queued_rest c.args.queues.now c.loop-queue.queue-index c.queue-item.result (omega arith) c.queue-item.is in
    let whole = queue_parts c.as_slices.result.0.now c.as_slices.result.1.now c.parcels.result.now.items c.queue-item.result c.as_slices.ensures.items c.parcels.ensures.value in
    omega (arith, c.loop-queue.invariant, c.requires.few, c.among.ensures.value, c.among-in-loop-queue.ensures.value, next, whole)

pub overflow_add-queued-in-loop-queue : goal.overflow_add-queued-in-loop-queue
overflow_add-queued-in-loop-queue g c =
    let next = queued_rest c.args.queues.now c.loop-queue.queue-index c.queue-item.result (omega arith) c.queue-item.is in
    let whole = queue_parts c.as_slices.result.0.now c.as_slices.result.1.now c.parcels.result.now.items c.queue-item.result c.as_slices.ensures.items c.parcels.ensures.value in
    omega (arith, c.loop-queue.invariant, c.requires.few, c.among.ensures.value, c.among-in-loop-queue.ensures.value, next, whole)

pub loop-queue-preserved : goal.loop-queue-preserved
loop-queue-preserved g c =
    let next = queued_rest c.args.queues.now c.loop-queue.queue-index c.queue-item.result (omega arith) c.queue-item.is in
    let whole = queue_parts c.as_slices.result.0.now c.as_slices.result.1.now c.parcels.result.now.items c.queue-item.result c.as_slices.ensures.items c.parcels.ensures.value in
    omega (arith, c.loop-queue.invariant, c.among.ensures.value, c.among-in-loop-queue.ensures.value, next, whole)

pub returns : goal.returns
returns g c = record { value = omega (arith, c.loop-queue.invariant, queued_end c.args.queues.now c.loop-queue.queue-index (omega arith)) }
