-- The work of a cell, which follows a hot spot that wanders along the chain.
use Rattle.std.specs.Prelude.{ℕ, ◌+◌, ◌-◌, ◌*◌, ◌/◌, min, max}

-- the strip in the middle of the hot spot: in round 0 the first of n, and after the last round it would be past the last
abbrev pub middle : ℕ → ℕ → ℕ → ℕ
middle n round rounds = round * n / rounds

abbrev pub distance : ℕ → ℕ → ℕ
distance a b = max a b - min a b

-- how many rounds of mixing a cell of strip `me` takes: one, and some of the work where the middle is nearer than an eighth
-- of the chain
abbrev pub cell_work : ℕ → ℕ → ℕ → ℕ → ℕ → ℕ
cell_work me n round rounds work = 1 + work * (n - 8 * distance me (middle n round rounds)) / n
