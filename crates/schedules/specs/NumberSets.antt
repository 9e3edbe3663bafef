-- Sets of small numbers, as a flag for each number.
use Rattle.std.specs.Prelude.{◌≡◌, ℕ, ◌+◌, ◌*◌, ◌^◌, ◌<◌, ◌≤◌, List, length, get_or, Bool, false}
use Rattle.std.specs.List.{filter, range_with_len}

-- whether a number is a member
abbrev pub has : List Bool → ℕ → Bool
has flags number = get_or flags number false

-- the numbers below n that pass a test, in order
abbrev pub those : (ℕ → Bool) → ℕ → List ℕ
those test n = filter test (range_with_len 0 n)

-- the members, in order
abbrev pub members : List Bool → List ℕ
members flags = those (has flags) (length flags)

-- how many members there are below n
abbrev pub below : List Bool → ℕ → ℕ
below flags n = length (those (has flags) n)

-- how many numbers a block has
abbrev pub block_len : ℕ
block_len = 256

-- these are the numbers of members of the blocks, and that of all members
pub record AreCounted (flags : List Bool) (blocks : List ℕ) (len : ℕ) : Type 0 where
  pub few : length flags < 2 ^ 32
  pub covered : length flags ≤ length blocks * 256
  pub no_more : length blocks ≤ 2 ^ 32
  pub each : (b : ℕ) → b < length blocks → get_or blocks b 0 + below flags (b * 256) ≡ below flags (b * 256 + 256)
  pub all : len ≡ below flags (length flags)
