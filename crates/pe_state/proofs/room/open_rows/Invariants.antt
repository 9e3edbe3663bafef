use Rattle.std.proofs.Common.{◌≡◌, ◌+◌, ◌-◌, length}
use Rattle.pe_state.specs.Rows.{entries_of, IsRoom}
use Rattle.pe_state.proofs.room.open_rows.Given as goal

abbrev pub invariant-loop-alloc : goal.invariant-loop-alloc
invariant-loop-alloc g l = record {
  same : entries_of l.rows.items ≡ entries_of l.initial.rows.items;
  room : IsRoom l.rows.items;
}

abbrev pub decreases-loop-alloc : goal.decreases-loop-alloc
decreases-loop-alloc g l = l.last + 1 - length l.rows.items
