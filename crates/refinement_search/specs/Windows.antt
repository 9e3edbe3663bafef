-- Blocks within a limit, by where they end.
use Rattle.std.specs.Prelude.{ℕ, ◌≤◌, List, length}
use Rattle.chain_refinement.specs.Walks.{IsLeastStart}

-- the least starts of blocks that end at each place
abbrev pub AreStarts : List ℕ → ℕ → (ℕ → ℕ) → Type 0
AreStarts loads limit start = (x : ℕ) → x ≤ length loads → IsLeastStart loads x limit (start x)
