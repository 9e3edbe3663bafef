-- Limits that are tried by walks, and how they narrow bounds of the least bottleneck.
use Rattle.std.specs.Prelude.{◌≡◌, ◌⊎◌, ℕ, ◌+◌, ◌-◌, ◌*◌, ◌/◌, ◌<◌, ◌≤◌, List, length, slice_index}
use Rattle.merged_chains.specs.declared.walk.Walk.{Walk}
use Rattle.merged_chains.specs.Walks.{IsWalked}

-- walk i of those in three lists
abbrev pub walk_at : List ℕ → List ℕ → List ℕ → ℕ → Walk
walk_at limits closed filled i =
    record { limit = slice_index limits i; closed = slice_index closed i; filled = slice_index filled i }

-- walks within these limits have come to the end of the chain, and closed these numbers of blocks
abbrev pub AreWalked : List ℕ → ℕ → List ℕ → List ℕ → Type 0
AreWalked loads blocks limits closed =
    (i : ℕ) → i < length limits → (filled : ℕ) × (ends : List ℕ)
    × IsWalked loads blocks ends (record { limit = slice_index limits i; closed = slice_index closed i; filled = filled })

-- The lower bound, raised by the first n limits: it is above each within which all blocks were closed, and it is the old one,
-- or one above such a limit.
pub record IsRaised (blocks n : ℕ) (limits closed : List ℕ) (low raised : ℕ) : Type 0 where
  pub no_lower : low ≤ raised
  pub above : (i : ℕ) → i < n → blocks ≤ slice_index closed i → slice_index limits i < raised
  pub reached : (raised ≡ low) ⊎ ((i : ℕ) × (i < n) × (blocks ≤ slice_index closed i) × (raised ≡ slice_index limits i + 1))

-- The upper bound, lowered by the first n limits: it is above none within which a block was left, and it is the old one, or
-- such a limit.
pub record IsLowered (blocks n : ℕ) (limits closed : List ℕ) (high lowered : ℕ) : Type 0 where
  pub no_higher : lowered ≤ high
  pub within : (i : ℕ) → i < n → slice_index closed i < blocks → lowered ≤ slice_index limits i
  pub reached : (lowered ≡ high) ⊎ ((i : ℕ) × (i < n) × (slice_index closed i < blocks) × (lowered ≡ slice_index limits i))

-- Limit j of n to try: of the numbers low..=high in n + 1 groups, whose sizes differ by 1 at most, the last of group j.
abbrev pub spread_limit : ℕ → ℕ → ℕ → ℕ → ℕ
spread_limit low high n j = low + ((high - low + 1) * (j + 1) / (n + 1) - 1)

-- these limits are spread evenly over the bounds
abbrev pub AreSpread : ℕ → ℕ → List ℕ → Type 0
AreSpread low high limits =
    (j : ℕ) → j < length limits → slice_index limits j ≡ spread_limit low high (length limits) j

-- each of these limits is from low on and below high, and below the next
pub record AreBetween (low high : ℕ) (limits : List ℕ) : Type 0 where
  pub from_low : (j : ℕ) → j < length limits → low ≤ slice_index limits j
  pub below_high : (j : ℕ) → j < length limits → slice_index limits j < high
  pub ascending : (j : ℕ) → j + 1 < length limits → slice_index limits j < slice_index limits (j + 1)
