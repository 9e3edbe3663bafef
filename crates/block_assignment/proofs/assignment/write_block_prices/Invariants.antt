use Rattle.std.proofs.Common.{◌≡◌, ℕ, ◌<◌, slice_index, pos}
use Rattle.lb_certificates.specs.Naming.{price_at}
use Rattle.block_assignment.proofs.assignment.write_block_prices.Given as goal

abbrev pub invariant-loop-b : goal.invariant-loop-b
invariant-loop-b l = (b : ℕ) → b < l.b → price_at l.prices b ≡ pos (slice_index l.price b)
