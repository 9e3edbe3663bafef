-- The example in the worked dump.
use Rattle.std.specs.Prelude.{ℕ, [], ◌∷◌, List}
use Rattle.lb_snapshot.specs.Measured.{Taken}

-- the sizes and the places of three elements on two PEs
abbrev pub three_sizes : List (ℕ × ℕ)
three_sizes = (10, 0) ∷ (9, 1) ∷ (8, 0) ∷ []

-- these elements and their loads, at step 5
abbrev pub three_elements : Taken
three_elements = record {
  step = 5;
  procs = 2;
  loads = 1 ∷ 1 ∷ 2 ∷ [];
  sizes = three_sizes;
}
