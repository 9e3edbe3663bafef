use Rattle.std.proofs.Common.{◌≡◌, ◌+◌, ◌≤◌}
use Rattle.std.specs.VecDeque.{deque_capacity, deque_len}
use Rattle.pe_worker.proofs.worker.report_all.Given as goal

abbrev pub invariant-loop-note : goal.invariant-loop-note
invariant-loop-note g l = record {
  same_me : l.seated.pe.me ≡ l.initial.seated.pe.me;
  room : deque_len l.agenda.waiting + l.notes ≤ deque_capacity l.agenda.waiting + l._note;
  no_growth : deque_capacity l.agenda.waiting ≡ deque_capacity l.initial.agenda.waiting;
}
