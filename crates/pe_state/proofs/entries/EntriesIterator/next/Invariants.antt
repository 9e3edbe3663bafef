use Rattle.std.proofs.Common.{◌≡◌, ◌++◌, length}
use Rattle.std.specs.Slice.Iter.{iter_rest}
use Rattle.pe_state.specs.Rows.{entries_of}
use Rattle.pe_state.proofs.entries.EntriesIterator.next.Given as goal

abbrev pub invariant-loop-index : goal.invariant-loop-index
invariant-loop-index g l = iter_rest l.self-inside.row ++ entries_of (iter_rest l.self-inside.rows) ≡ l.fn.self

abbrev pub decreases-loop-index : goal.decreases-loop-index
decreases-loop-index g l = length (iter_rest l.self-inside.rows)
