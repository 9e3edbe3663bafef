use Rattle.std.proofs.Common.{◌≡◌, ◌+◌, ◌*◌, ◌≤◌, length, drop}
use Rattle.pe_state.specs.Rows.{row_width, row_count, entries_of}
use Rattle.pe_state.proofs.room.Room.len.Given as goal

abbrev pub invariant-loop-row : goal.invariant-loop-row
invariant-loop-row g l = record {
  left : l.len + length (entries_of (drop l.row-index l.row-items)) ≡ length l.self;
  short : length l.self ≤ row_width * row_count;
}
