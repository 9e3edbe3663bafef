use Rattle.std.proofs.Common.{◌≡◌, ◌≤◌, [], length, ap, arith, vec_capacity}
use Rattle.std.specs.Prelude.{All}
use Rattle.pe_state.specs.Histories.{IsParcelHistory}
use Rattle.run_account.proofs.Passing.{passed_by, all_next, all_more, counted_more}
use Rattle.run_account.proofs.left_buffers.LeftBuffers.release.Goals as goal

pub release_queue-requires-clause-empty : goal.release_queue-requires-clause-empty
release_queue-requires-clause-empty g c =
    (all_next (λ room. (room.items ≡ []) × (c.args.self.capacity ≤ vec_capacity room)) c.in-Some-take_next.room
    c.take_next-in-Some.new.left.items c.loop-queue.buffers.items c.in-Some-take_next.ensures.taken c.loop-queue.invariant.buffers).0.0

pub release_queue-requires-clause-wide : goal.release_queue-requires-clause-wide
release_queue-requires-clause-wide g c =
    let a = (all_next (λ room. (room.items ≡ []) × (c.args.self.capacity ≤ vec_capacity room)) c.in-Some-take_next.room
    c.take_next-in-Some.new.left.items c.loop-queue.buffers.items c.in-Some-take_next.ensures.taken c.loop-queue.invariant.buffers).0.1 in
    let b = (all_next (λ queue. length queue.items ≤ c.args.self.capacity) c.in-Some.queue c.take_next.new.left.items
    c.loop-queue.queues.items c.in-Some.ensures.taken c.loop-queue.invariant.few).0 in
    omega (arith, a, b)

pub loop-queue-preserved : goal.loop-queue-preserved
loop-queue-preserved g c =
    let i = c.loop-queue.invariant in
    let is = c.in-Some.ensures.taken in
    let at = c.in-Some-take_next.ensures.taken in
    let n = counted_more c.loop-queue.left.items c.push_reserved.new.self.items c.release_queue.result c.push_reserved.ensures.items in
    record {
      parcels = passed_by (λ queue. queue.items) (λ queue. queue.items) c.loop-queue.left.items c.push_reserved.new.self.items
          c.loop-queue.queues.items c.take_next.new.left.items _ c.in-Some.queue c.release_queue.result is c.push_reserved.ensures.items
          c.release_queue.ensures.parcels i.parcels;
      one_each = omega (arith, i.one_each, ap length is, ap length at);
      wide = omega (arith, i.wide, n, ap length at, c.push_reserved.ensures.capacity);
      buffers = (all_next (λ room. (room.items ≡ []) × (c.args.self.capacity ≤ vec_capacity room)) c.in-Some-take_next.room
          c.take_next-in-Some.new.left.items c.loop-queue.buffers.items at i.buffers).1;
      few = (all_next (λ queue. length queue.items ≤ c.args.self.capacity) c.in-Some.queue c.take_next.new.left.items c.loop-queue.queues.items is i.few).1;
      histories = all_more (λ queue. All (IsParcelHistory g.C.Chare.step g.C.Pup.fits g.C.Pup.pack g.H.Openings.opened) queue.items)
          c.loop-queue.left.items c.push_reserved.new.self.items c.release_queue.result c.push_reserved.ensures.items i.histories
          c.release_queue.ensures.histories;
    }
