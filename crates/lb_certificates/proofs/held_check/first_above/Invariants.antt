use Rattle.std.proofs.Common.{ℕ, ◌<◌, pos, ◌+ℤ◌, ◌≤ℤ◌}
use Rattle.lb_certificates.specs.Held.{held_cost}
use Rattle.lb_certificates.specs.Naming.{price_at}
use Rattle.lb_certificates.proofs.held_check.first_above.Given as goal

abbrev pub invariant-loop-b : goal.invariant-loop-b
invariant-loop-b l =
    (b p : ℕ) → b < l.b → p < l.blocks → (price_at l.u b +ℤ price_at l.v p) ≤ℤ pos (held_cost l.blocks l.held b p)
