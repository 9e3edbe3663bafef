use Rattle.std.proofs.Common.{◌≡◌, ◌+◌, ◌++◌, ◌≤◌, map}
use Rattle.std.specs.VecDeque.{deque_len, deque_capacity}
use Rattle.worker_threads.proofs.crew.begin_all.Given as goal

abbrev pub invariant-loop-worker : goal.invariant-loop-worker
invariant-loop-worker g l = record {
  numbers : l.begun.items ++ map g.W.Work.number l.workers.items ≡ map g.W.Work.number l.fn.workers.items;
  room : deque_len l.begun + deque_len l.workers ≤ deque_capacity l.begun;
}

abbrev pub decreases-loop-worker : goal.decreases-loop-worker
decreases-loop-worker g l = deque_len l.workers
