use Rattle.std.proofs.Common.{◌≡◌, ◌++◌, map, take, drop}
use Rattle.std.specs.VecDeque.{deque_capacity, deque_len}
use Rattle.pe_state.specs.Reopening.{readdressed}
use Rattle.pe_state.proofs.pe.reopening.readdress_outbox.Given as goal

abbrev pub invariant-loop-turned : goal.invariant-loop-turned
invariant-loop-turned g l = record {
  items : l.outbox.items ≡ drop l._turned l.initial.outbox.items ++ map (readdressed l.pes l.me) (take l._turned l.initial.outbox.items);
  len : deque_len l.outbox ≡ deque_len l.initial.outbox;
  capacity : deque_capacity l.outbox ≡ deque_capacity l.initial.outbox;
}
