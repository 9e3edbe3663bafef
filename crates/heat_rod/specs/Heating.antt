-- A step of one cell: the explicit scheme of the heat equation, forward in time and centered in space, with a source of heat from an
-- ignition temperature on. All operations are those of IEEE 754 on doubles, rounded to nearest, a tie to the even one.
use Rattle.std.specs.Prelude.{ℕ, zero, suc, Bool, if◌then◌else◌}
use Rattle.std.specs.Float.{Float, binary64}
use Rattle.std.specs.Float.Ieee.{add, sub, mul, le}
use Rattle.heat_rod.specs.declared.heating.TheConstants.{FLAME, IGNITION, PARTS, RATE, SHARE}

-- heat comes from both sides, by the differences of temperature
abbrev pub conducted : Float → Float → Float → Float
conducted left cell right = add binary64 cell (mul binary64 RATE (add binary64 (sub binary64 left cell) (sub binary64 right cell)))

abbrev pub is_burning : Float → Bool
is_burning cell = le IGNITION cell

-- a small step of burning goes a share of the way to the temperature of the flame
abbrev pub burnt_more : Float → Float
burnt_more heat = add binary64 heat (mul binary64 SHARE (sub binary64 FLAME heat))

-- any number of small steps
unfoldable pub burnt : Float → ℕ → Float
burnt heat zero = heat
burnt heat (suc parts) = burnt_more (burnt heat parts)

-- a cell after a step
abbrev pub next_cell : Float → Float → Float → Float
next_cell left cell right = if is_burning cell then burnt (conducted left cell right) PARTS else conducted left cell right
