use Rattle.std.proofs.Common.{◌≡◌, [], ◌+◌, drop, map, refl, ap}
use Rattle.std.proofs.lemmas.Bool.{false≢true, iff_false}
use Rattle.std.proofs.lemmas.List.{drop_all}
use Rattle.round_marks.proofs.Walks.{from_here, walk_ends, walk_on, walk_stops}
use Rattle.round_marks.proofs.quiet.queues_are_empty.Goals as goal

pub returns-then-not-is_vacant : goal.returns-then-not-is_vacant
returns-then-not-is_vacant g c =
    let i = c.loop-queue.queue-index in
    let queues = c.args.queues.now in
    let next = ap (map (λ queue. queue.items)) (from_here queues i c.queue-item.result c.loop-queue-test.true c.queue-item.is) in (
      λ t. absurd (false≢true t),
      λ h. absurd (walk_stops (λ queue. queue ≡ []) (map (λ queue. queue.items) queues) (map (λ queue. queue.items) (drop i queues))
          c.loop-queue.invariant c.queue-item.result.items (map (λ queue. queue.items) (drop (i + 1) queues)) next
          (λ all. iff_false c.is_vacant.ensures c.if-not-is_vacant.true (rw c.as_slice.ensures.value all)) h),
    )

pub loop-queue-preserved : goal.loop-queue-preserved
loop-queue-preserved g c =
    let i = c.loop-queue.queue-index in
    let queues = c.args.queues.now in
    let next = ap (map (λ queue. queue.items)) (from_here queues i c.queue-item.result c.loop-queue-test.true c.queue-item.is) in
    walk_on (λ queue. queue ≡ []) (map (λ queue. queue.items) queues) (map (λ queue. queue.items) (drop i queues)) c.loop-queue.invariant
    c.queue-item.result.items (map (λ queue. queue.items) (drop (i + 1) queues)) next
    (rw c.as_slice.ensures.value at (c.is_vacant.ensures.0 c.if-not-is_vacant.false))

pub returns : goal.returns
returns g c =
    let i = c.loop-queue.queue-index in
    let queues = c.args.queues.now in (
      λ _. walk_ends (λ queue. queue ≡ []) (map (λ queue. queue.items) queues) (map (λ queue. queue.items) (drop i queues))
          c.loop-queue.invariant (ap (map (λ queue. queue.items)) (drop_all i queues c.loop-queue-test.false)),
      λ _. refl,
    )
