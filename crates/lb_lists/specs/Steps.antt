-- The steps of all blocks as plain lists, block after block.
use Rattle.std.specs.Prelude.{ℕ, ◌+◌, List, [], ◌∷◌, ◌++◌, length, map}
use Rattle.std.specs.List.{between, zip}

-- all steps, block by block
abbrev pub all_steps : List (List (ℕ × ℕ)) → List (ℕ × ℕ)
all_steps [] = []
all_steps (steps ∷ rows) = steps ++ all_steps rows

-- the number of the first step of each block, where that of the first block is `at`, and behind them where the last block's
-- steps end
abbrev pub first_steps : ℕ → List (List (ℕ × ℕ)) → List ℕ
first_steps at [] = at ∷ []
first_steps at (steps ∷ rows) = at ∷ first_steps (at + length steps) rows

-- the place of each step, and how much higher it is there
abbrev pub places_of : List (ℕ × ℕ) → List ℕ
places_of steps = map (λ step. step.0) steps

abbrev pub rises_of : List (ℕ × ℕ) → List ℕ
rises_of steps = map (λ step. step.1) steps

-- the steps of each block: those from its first step on to that of the next block
abbrev pub rows_between : List ℕ → List (ℕ × ℕ) → List (List (ℕ × ℕ))
rows_between (first ∷ next ∷ starts) steps = between first next steps ∷ rows_between (next ∷ starts) steps
rows_between _ steps = []

-- the steps of each block, by plain lists of them
abbrev pub heights_in : List ℕ → List ℕ → List ℕ → List (List (ℕ × ℕ))
heights_in starts places rises = rows_between starts (zip places rises)
