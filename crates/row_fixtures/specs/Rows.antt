-- The bytes of an element in a dump.
use Rattle.std.specs.Prelude.{ℕ, [], ◌∷◌, List, flat_map}
use Rattle.std.specs.Int.{to_be_bytes, w32}

-- its load, its size and its place, four bytes each, the highest first
abbrev pub row : ℕ × ℕ × ℕ → List ℕ
row (load, size, place) = flat_map (to_be_bytes w32) (load ∷ size ∷ place ∷ [])
