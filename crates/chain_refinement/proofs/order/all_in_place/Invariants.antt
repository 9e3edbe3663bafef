use Rattle.std.proofs.Common.{◌≡◌, ℕ, ◌+◌, ◌<◌, ◌≤◌, slice_index}
use Rattle.chain_refinement.specs.Orders.{place_of}
use Rattle.chain_refinement.proofs.order.all_in_place.Given as goal

abbrev pub invariant-loop-b : goal.invariant-loop-b
invariant-loop-b l =
    (b i : ℕ) → b < l.b → slice_index l.cuts b ≤ i → i < slice_index l.cuts (b + 1) → place_of l.sizes i ≡ slice_index l.names b
