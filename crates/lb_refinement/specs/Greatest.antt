-- The greatest of the loads of the first blocks.
use Rattle.std.specs.Prelude.{ℕ, ◌<◌, ◌≤◌, List}
use Rattle.lb_certificates.specs.Chain.{block_load, peak}

-- each of the first b blocks has at most this load, and this is at most the greatest load
pub record IsGreatestOf (loads cuts : List ℕ) (b most : ℕ) : Type 0 where
  pub above : (c : ℕ) → c < b → block_load loads cuts c ≤ most
  pub below : most ≤ peak loads cuts
