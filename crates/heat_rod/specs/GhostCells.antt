-- Ghost cells: the neighbors of a strip, what goes to them, and its pack.
use Rattle.std.specs.Prelude.{ℕ, ◌+◌, ◌-◌, ◌==◌, List, [], ◌∷◌, ◌++◌, Option, None, Some, nat_lt, if◌then◌else◌}
use Rattle.std.specs.Float.{Float, binary64}
use Rattle.std.specs.Int.{w32, w64, to_be_bytes}
use Rattle.messages.specs.Messages.{letters}
use Rattle.pup_pack.specs.Floats.{pack_float}
use Rattle.pup_pack.specs.Truths.{pack_bool}
use Rattle.reductions.specs.TreeMessages.{user_pack}
use Rattle.heat_rod.specs.declared.ghost_cell.GhostCell.{GhostCell}

abbrev pub left_of : ℕ → Option ℕ
left_of me = if me == 0 then None else Some (me - 1)

abbrev pub right_of : ℕ → ℕ → Option ℕ
right_of me n = if nat_lt (me + 1) n then Some (me + 1) else None

-- a ghost cell for a strip, if there is one
abbrev pub cells_to : Option ℕ → GhostCell → List (ℕ × GhostCell)
cells_to None cell = []
cells_to (Some to) cell = (to, cell) ∷ []

abbrev pub pack_f64 : Float → List ℕ
pack_f64 x = pack_float binary64 (to_be_bytes w64) x

-- a byte that says whether it comes from the left, the step in four bytes, and the temperature in eight
abbrev pub cell_pack : GhostCell → List ℕ
cell_pack g = pack_bool g.from_left ++ (to_be_bytes w32 g.step ++ pack_f64 g.heat)

-- the letters with these
abbrev pub cell_letters : List (ℕ × GhostCell) → List (ℕ × List ℕ)
cell_letters sends = letters (user_pack cell_pack) sends
