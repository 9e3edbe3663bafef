use Rattle.std.proofs.Common.{◌≡◌, ◌+◌, ◌++◌, ◌≤◌, map}
use Rattle.std.specs.VecDeque.{deque_len, deque_capacity}
use Rattle.worker_threads.proofs.crew.end_all.Given as goal

abbrev pub invariant-loop-worker : goal.invariant-loop-worker
invariant-loop-worker g l = record {
  numbers : map g.D.Work.number l.done.items ++ l.begun.items ≡ l.fn.begun.items;
  room : deque_len l.done + deque_len l.begun ≤ deque_capacity l.done;
}

abbrev pub decreases-loop-worker : goal.decreases-loop-worker
decreases-loop-worker g l = deque_len l.begun
