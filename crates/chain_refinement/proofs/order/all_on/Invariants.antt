use Rattle.std.proofs.Common.{◌≡◌, ℕ, ◌<◌, ◌≤◌}
use Rattle.chain_refinement.specs.Orders.{place_of}
use Rattle.chain_refinement.proofs.order.all_on.Given as goal

abbrev pub invariant-loop-i : goal.invariant-loop-i
invariant-loop-i l = (i : ℕ) → l.first ≤ i → i < l.i → place_of l.sizes i ≡ l.pe
