use Rattle.std.proofs.Common.{ℕ, ◌<◌, pos, ◌+ℤ◌, ◌≤ℤ◌}
use Rattle.lb_certificates.specs.Held.{row_cost}
use Rattle.lb_certificates.specs.Naming.{price_at}
use Rattle.lb_certificates.proofs.held_check.first_above_in.Given as goal

abbrev pub invariant-loop-p : goal.invariant-loop-p
invariant-loop-p l =
    (p : ℕ) → p < l.p → (price_at l.u l.b +ℤ price_at l.v p) ≤ℤ pos (row_cost l.row p)
