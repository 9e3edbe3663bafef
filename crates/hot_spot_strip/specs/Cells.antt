-- A round of the cells of a strip.
use Rattle.std.specs.Prelude.{ℕ, ◌-◌, ◌/◌, List, [], ◌∷◌, length, slice_index_or, bit_xor}
use Rattle.hot_spot_strip.specs.Mixing.{mixed}

-- the first of some cells, or another value where there is none
abbrev pub first_value : List ℕ → ℕ → ℕ
first_value cells none = slice_index_or cells 0 none

-- the last of them
abbrev pub last_value : List ℕ → ℕ → ℕ
last_value cells none = slice_index_or cells (length cells - 1) none

-- what a cell is mixed from: the exclusive or of the cell, the one before it, and half the one after it
abbrev pub stirred : ℕ → ℕ → ℕ → ℕ
stirred left cell right = bit_xor (bit_xor cell left) (right / 2)

-- the cells after a round with this number of rounds of mixing for each, from what all were before it; `left` is the value
-- before the first cell, and `after` the one after the last
abbrev pub computed : ℕ → ℕ → List ℕ → ℕ → List ℕ
computed rounds left [] after = []
computed rounds left (cell ∷ cells) after = mixed (stirred left cell (first_value cells after)) rounds ∷ computed rounds cell cells after
