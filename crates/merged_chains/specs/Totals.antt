-- The greatest load of a chain.
use Rattle.std.specs.Prelude.{ℕ, ◌≤◌, List, All}

-- no load is above it, and no lesser number is of that kind: it is the greatest load, and 0 where there is none
pub record IsGreatest (loads : List ℕ) (greatest : ℕ) : Type 0 where
  pub none_above : All (λ load. load ≤ greatest) loads
  pub least : (limit : ℕ) → All (λ load. load ≤ limit) loads → greatest ≤ limit
