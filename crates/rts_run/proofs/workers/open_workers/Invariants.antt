use Rattle.std.proofs.Common.{◌≡◌, ◌+◌, ◌≤◌, length, map, drop}
use Rattle.std.specs.Prelude.{All}
use Rattle.std.specs.List.{range_with_len}
use Rattle.std.specs.VecDeque.{deque_capacity}
use Rattle.pe_queues.specs.Seats.{new_seat}
use Rattle.rts_run.proofs.workers.open_workers.Given as goal

abbrev pub invariant-loop-pe : goal.invariant-loop-pe
invariant-loop-pe g l = record {
  workers : map (λ w. w.seated.pe.me) l.workers.items ≡ range_with_len 0 (length l.workers.items);
  counted : length l.workers.items + length l.states.items ≡ length l.fn.states.items;
  as_many : length l.states.items ≡ length l.seats.items;
  wide : length l.fn.states.items ≤ deque_capacity l.workers;
  starts : l.states.items ≡ drop (length l.workers.items) g.J.RunBeginning.beginning.starts;
  shares : map (λ s. s.seats) l.seats.items ≡ drop (length l.workers.items) g.J.RunBeginning.beginning.shares;
  in_order : map (λ pe. pe.me) l.states.items ≡ range_with_len (length l.workers.items) (length l.states.items);
  new : All (λ s. s ≡ new_seat g.J.RunBeginning.beginning.post s.seats) l.seats.items;
}

abbrev pub decreases-loop-pe : goal.decreases-loop-pe
decreases-loop-pe g l = length l.states.items
