-- A list of numbers of elements while it is filled in.
use Rattle.std.specs.Prelude.{ℕ, List, [], ◌∷◌, slice_set}

-- the list once these numbers are at the indices beside them
abbrev pub with_noted : List ℕ → List (ℕ × ℕ) → List ℕ
with_noted noted [] = noted
with_noted noted (x ∷ xs) = with_noted (slice_set noted x.0 x.1) xs
