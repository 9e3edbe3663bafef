-- The places of each block's row.
use Rattle.std.specs.Prelude.{◌≡◌, ℕ, ◌+◌, ◌-◌, ◌<◌, ◌≤◌, List, slice_index}

-- The first places of the rows: each at or before the present cut, and reached by a block within the limit that begins at
-- the first place of the row before.
pub record AreNears (present : List ℕ) (blocks : ℕ) (start near : ℕ → ℕ) : Type 0 where
  pub first : near 0 ≡ 0
  pub before : (b : ℕ) → b < blocks → near b ≤ slice_index present b
  pub rises : (b : ℕ) → b + 1 < blocks → near b ≤ near (b + 1)
  pub reached : (b : ℕ) → b + 1 < blocks → start (near (b + 1)) ≤ near b

-- the last places of the rows from block b on: each at or behind the present cut and the least start of a block that ends
-- at the last place of the row behind it
pub record AreFarsFrom (present : List ℕ) (blocks elements : ℕ) (start far : ℕ → ℕ) (b : ℕ) : Type 0 where
  pub behind : (k : ℕ) → b ≤ k → k < blocks → slice_index present k ≤ far k
  pub inside : (k : ℕ) → b ≤ k → k < blocks → far k ≤ elements
  pub reached : (k : ℕ) → b ≤ k → k + 1 < blocks → start (far (k + 1)) ≤ far k
  pub last : start elements ≤ far (blocks - 1)

abbrev pub AreFars : List ℕ → ℕ → ℕ → (ℕ → ℕ) → (ℕ → ℕ) → Type 0
AreFars present blocks elements start far = AreFarsFrom present blocks elements start far 0
