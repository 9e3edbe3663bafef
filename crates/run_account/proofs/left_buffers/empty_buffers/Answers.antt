use Rattle.std.proofs.Common.{◌≡◌, ◌≤◌, [], arith, vec_capacity}
use Rattle.run_account.proofs.Passing.{all_more, counted_more}
use Rattle.run_account.proofs.left_buffers.empty_buffers.Goals as goal

pub loop-queue-preserved : goal.loop-queue-preserved
loop-queue-preserved g c =
    let i = c.loop-queue.invariant in
    let n = counted_more c.loop-queue.buffers.items c.push_back_reserved.new.self.items c.in_ok-room.room c.push_back_reserved.ensures.items in
    record {
      one_each = omega (arith, i.one_each, n);
      wide = omega (arith, i.wide, c.push_back_reserved.ensures.capacity);
      empty = all_more (λ room. (room.items ≡ []) × (c.args.capacity ≤ vec_capacity room)) c.loop-queue.buffers.items
          c.push_back_reserved.new.self.items c.in_ok-room.room c.push_back_reserved.ensures.items i.empty
          (c.in_ok-room.ensures.items, omega (arith, c.in_ok-room.ensures.capacity));
    }
