use Rattle.std.proofs.Common.{◌≡◌, ◌+◌, ◌++◌, ◌≤◌, [], length, map, vec_capacity}
use Rattle.std.specs.Prelude.{All}
use Rattle.pe_state.specs.Histories.{IsParcelHistory}
use Rattle.run_account.proofs.left_buffers.LeftBuffers.release.Given as goal

abbrev pub invariant-loop-queue : goal.invariant-loop-queue
invariant-loop-queue g l = record {
  parcels : map (λ queue. queue.items) l.left.items ++ map (λ queue. queue.items) l.queues.items ≡ map (λ queue. queue.items) l.fn.queues.items;
  one_each : length l.queues.items ≡ length l.buffers.items;
  wide : length l.left.items + length l.buffers.items ≤ vec_capacity l.left;
  buffers : All (λ room. (room.items ≡ []) × (l.fn.self.capacity ≤ vec_capacity room)) l.buffers.items;
  few : All (λ queue. length queue.items ≤ l.fn.self.capacity) l.queues.items;
  histories : All (λ queue. All (IsParcelHistory g.C.Chare.step g.C.Pup.fits g.C.Pup.pack g.H.Openings.opened) queue.items) l.left.items;
}

abbrev pub decreases-loop-queue : goal.decreases-loop-queue
decreases-loop-queue g l = length l.queues.items
