use Rattle.std.proofs.Common.{◌≡◌, ℕ, ◌<◌, slice_index}
use Rattle.lb_certificates.specs.Held.{row_cost}
use Rattle.block_assignment.proofs.held_rows.fill_row.Given as goal

abbrev pub invariant-loop-p : goal.invariant-loop-p
invariant-loop-p l = (q : ℕ) → q < l.p → slice_index l.row q ≡ row_cost l.held q
