-- Where each element is to run.
use Rattle.std.specs.Prelude.{◌≡◌, ℕ, ◌<◌, List, length, slice_index}
use Rattle.lb_strategy.specs.Moves.{planned_pe}

-- a place for each of n elements: the name of its block
pub record ArePlaces (cuts names : List ℕ) (n : ℕ) (new_places : List ℕ) : Type 0 where
  pub counted : length new_places ≡ n
  pub placed : (i : ℕ) → i < n → slice_index new_places i ≡ planned_pe cuts names i
