use Rattle.std.proofs.Common.{◌≡◌, ℕ, ◌<◌, slice_index, pos, neg_ℤ}
use Rattle.lb_certificates.specs.Naming.{price_at}
use Rattle.block_assignment.proofs.assignment.write_pe_prices.Given as goal

abbrev pub invariant-loop-p : goal.invariant-loop-p
invariant-loop-p l = (p : ℕ) → p < l.p → price_at l.prices p ≡ neg_ℤ (pos (slice_index l.discount p))
