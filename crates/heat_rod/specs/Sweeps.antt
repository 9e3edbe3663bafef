-- A step of the cells of a strip, between the ghost cells on its left and its right.
use Rattle.std.specs.Prelude.{ℕ, ◌+◌, ◌*◌, List, ◌∷◌, length, map, false, slice_index_or}
use Rattle.std.specs.List.{count_by, fold, range_with_len}
use Rattle.std.specs.Float.{Float, binary64, float_with_sign}
use Rattle.std.specs.Float.Ieee.{sub}
use Rattle.reductions.specs.Combining.{greatest_f64}
use Rattle.heat_rod.specs.declared.heating.TheConstants.{PARTS}
use Rattle.heat_rod.specs.declared.sweep.TheConstants.{STILL}
use Rattle.heat_rod.specs.Heating.{is_burning, next_cell}

-- the cell at place i after the step, from the one before it, itself and the one after it
abbrev pub next_at : Float → List Float → Float → ℕ → Float
next_at left cells right i = next_cell (slice_index_or (left ∷ cells) i left) (slice_index_or cells i left) (slice_index_or cells (i + 1) right)

-- all of them
abbrev pub next_cells : Float → List Float → Float → List Float
next_cells left cells right = map (next_at left cells right) (range_with_len 0 (length cells))

-- how much the cell at place i changes
abbrev pub change_at : Float → List Float → Float → ℕ → Float
change_at left cells right i = float_with_sign false (sub binary64 (next_at left cells right i) (slice_index_or cells i left))

-- the greatest change of a cell
abbrev pub greatest_change : Float → List Float → Float → Float
greatest_change left cells right = fold greatest_f64 STILL (map (change_at left cells right) (range_with_len 0 (length cells)))

-- the work of the step: a unit for each cell, and for each small step of burning
abbrev pub work_of : List Float → ℕ
work_of cells = length cells + PARTS * count_by is_burning cells
