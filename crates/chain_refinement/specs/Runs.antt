-- Definitions for this crate's own code, which no public contract uses: the order of the PEs along the first elements of a
-- chain, while the rest has not been seen yet.
use Rattle.std.specs.Prelude.{◌≡◌, ◌≢◌, ℕ, ◌+◌, ◌-◌, ◌<◌, ◌≤◌, List, length, slice_index, slice_index_or}
use Rattle.chain_refinement.specs.Orders.{place_of}

-- this PE is the last of the list
abbrev pub IsLast : List ℕ → ℕ → Type 0
IsLast names pe = (0 < length names) × (slice_index names (length names - 1) ≡ pe)

-- The elements before the end are in runs, each on a PE of its own, below pes, which has no other elements before the end. Each
-- run begins where the one before it ends.
pub record AreRuns (sizes : List (ℕ × ℕ)) (pes end : ℕ) (names starts : List ℕ) : Type 0 where
  pub counted : length starts ≡ length names
  pub first : slice_index_or starts 0 end ≡ 0
  pub rises : (b : ℕ) → b < length names → slice_index starts b < slice_index_or starts (b + 1) end
  pub stands : (b i : ℕ) → b < length names → slice_index starts b ≤ i → i < slice_index_or starts (b + 1) end → place_of sizes i ≡ slice_index names b
  pub below : (b : ℕ) → b < length names → slice_index names b < pes
  pub apart : (a b : ℕ) → a < b → b < length names → slice_index names a ≢ slice_index names b
