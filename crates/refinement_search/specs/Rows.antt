-- A row as it is written, from its last place to its first.
use Rattle.std.specs.Prelude.{◌≡◌, ℕ, ◌+◌, ◌*◌, ◌^◌, ◌<◌, ◌≤◌, ◌==◌, if◌then◌else◌, max, List, [], ◌∷◌, ◌++◌, length, slice_index}
use Rattle.chain_refinement.specs.Refinement.{height, height_at, held_before, held_from}

-- what is compared at a place: the row below at the least start of a block that ends there, or at its first place where
-- that is later, and what the cut costs
abbrev pub sum_at : List (ℕ × ℕ) → List ℕ → List ℕ → ℕ → ℕ → ℕ → ℕ → ℕ
sum_at sizes starts below near from to x =
    slice_index below (max (slice_index starts x) near) + (held_from sizes from x + held_before sizes to x)

-- from place x up to far each number is the least of the sums from it on; before x nothing has changed
pub record IsWrittenFrom (far : ℕ) (sum : ℕ → ℕ) (old new : List ℕ) (x : ℕ) : Type 0 where
  pub counted : length new ≡ length old
  pub same : (z : ℕ) → z < x → slice_index new z ≡ slice_index old z
  pub behind : (z : ℕ) → far < z → slice_index new z ≡ slice_index old z
  pub low : (z : ℕ) → x ≤ z → z ≤ far → slice_index new z ≤ sum z
  pub rises : (y z : ℕ) → x ≤ y → y ≤ z → z ≤ far → slice_index new y ≤ slice_index new z
  pub reached : (z : ℕ) → x ≤ z → z ≤ far → (y : ℕ) × (z ≤ y) × (y ≤ far) × (sum y ≤ slice_index new z)

-- steps with one more, unless it does not rise
abbrev pub with_step : List (ℕ × ℕ) → ℕ → ℕ → List (ℕ × ℕ)
with_step steps at rise = if rise == 0 then steps else steps ++ (at, rise) ∷ []

-- a step function that has the numbers of a row between two places, and is level before and behind them
pub record AreStepsOf (row : List ℕ) (near far : ℕ) (steps : List (ℕ × ℕ)) : Type 0 where
  pub flat : (x : ℕ) → x ≤ near → height steps x ≡ slice_index row near
  pub heights : (x : ℕ) → near ≤ x → x ≤ far → height steps x ≡ slice_index row x
  pub level : (x : ℕ) → far ≤ x → height steps x ≡ slice_index row far

-- the last row of a pile, between its places, and a bound on all numbers of the list that holds it
pub record AreTopped (near far b : ℕ) (rows : List (List (ℕ × ℕ))) (top : List ℕ) : Type 0 where
  pub heights : (x : ℕ) → near ≤ x → x ≤ far → height_at rows b x ≡ slice_index top x
  pub small : (x : ℕ) → x < length top → slice_index top x ≤ 2 ^ 62 + b * 2 ^ 37
