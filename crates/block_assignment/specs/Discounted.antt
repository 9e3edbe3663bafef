-- Costs with a discount of each PE added. The sum of all discounts is the same for every naming, so the same namings are
-- cheapest. Source: R. K. Ahuja, T. L. Magnanti and J. B. Orlin, "Network Flows", Prentice Hall 1993, section 2.4: node
-- potentials.
use Rattle.std.specs.Prelude.{◌≡◌, ℕ, ◌+◌, ◌<◌, List, length, slice_index}
use Rattle.block_assignment.specs.Table.{Table, cost_at}

-- what block b costs on PE p, with the PE's discount
abbrev pub discounted_cost : Table → List ℕ → ℕ → ℕ → ℕ
discounted_cost t discount b p = cost_at t b p + slice_index discount p

-- a PE for each block
pub record ArePes (blocks : ℕ) (pes : List ℕ) : Type 0 where
  pub counted : length pes ≡ blocks
  pub below : (b : ℕ) → b < blocks → slice_index pes b < blocks

-- Prices and discounts were found beside the discounts of the start: with these added, all are lowered by the least discount.
pub record IsSettled (start price discount settled_price settled_discount : List ℕ) : Type 0 where
  pub least : ℕ
  pub at : ℕ
  pub inside : at < length discount
  pub reached : slice_index start at + slice_index discount at ≡ least
  pub prices : (b : ℕ) → b < length price → slice_index settled_price b + least ≡ slice_index price b
  pub discounts : (p : ℕ) → p < length discount → slice_index settled_discount p + least ≡ slice_index start p + slice_index discount p
