use Rattle.std.proofs.Common.{◌≡◌, ◌+◌, ◌-◌, ◌≤◌, length, vec_capacity}
use Rattle.crossbeam_queue.specs.Passes.{view, IsPassOf, ruled_capacity}
use Rattle.pe_queues.proofs.Steps.{drained}
use Rattle.pe_queues.proofs.queue.pop_all.Given as goal

abbrev pub invariant-loop-value : goal.invariant-loop-value
invariant-loop-value g l = record {
  own : IsPassOf l.ring l.pass;
  traffic : view l.pass ≡ drained (view l.fn.pass) l.room.items;
  count : length (view l.fn.pass).puts ≡ length (view l.fn.pass).takes + l._left;
  wide : l._left ≤ vec_capacity l.room;
  few : l._left ≤ ruled_capacity l.ring;
  held : length l.room.items ≤ l._left;
}

abbrev pub decreases-loop-value : goal.decreases-loop-value
decreases-loop-value g l = l._left - length l.room.items
