use Rattle.std.proofs.Common.{◌≡◌, ◌≤◌, [], length, vec_capacity}
use Rattle.std.specs.Prelude.{All}
use Rattle.std.specs.VecDeque.{deque_capacity}
use Rattle.run_account.proofs.left_buffers.empty_buffers.Given as goal

abbrev pub invariant-loop-queue : goal.invariant-loop-queue
invariant-loop-queue g l = record {
  one_each : length l.buffers.items ≡ l._queue;
  wide : l.queues ≤ deque_capacity l.buffers;
  empty : All (λ room. (room.items ≡ []) × (l.capacity ≤ vec_capacity room)) l.buffers.items;
}
