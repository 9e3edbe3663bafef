-- The strips of a chain, as they open.
use Rattle.std.specs.Prelude.{◌≡◌, ℕ, ◌+◌, ◌^◌, ◌<◌, List, [], ◌∷◌, All, map, sum_by, true}
use Rattle.std.specs.List.{range_with_len}
use Rattle.hot_spot_strip.specs.declared.mode.Mode.{Mode}
use Rattle.hot_spot_strip.specs.Mixing.{mix}
use Rattle.hot_spot_strip.specs.Strips.{StripView, is_strip, opening_strip}

-- this number of cells from number `first` on: each begins as its number, mixed
abbrev pub opening_cells : ℕ → ℕ → List ℕ
opening_cells first count = map mix (range_with_len first count)

-- the strips with these numbers of cells, from the one whose first cell has this number on
abbrev pub opening_strips : Mode → ℕ → ℕ → ℕ → List ℕ → List StripView
opening_strips mode rounds work first [] = []
opening_strips mode rounds work first (count ∷ counts) =
    opening_strip mode rounds work (opening_cells first count) ∷ opening_strips mode rounds work (first + count) counts

-- the numbers of a chain are within their limits: those of each strip, as it opens, and that of all cells, which is one of 64 bits
pub record IsChain (mode : Mode) (rounds work : ℕ) (counts : List ℕ) : Type 0 where
  pub strips : All (λ s. is_strip s ≡ true) (opening_strips mode rounds work 0 counts)
  pub cells : sum_by (λ n. n) counts < 2 ^ 64
