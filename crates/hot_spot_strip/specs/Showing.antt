-- What a strip shows a neighbor as a round begins, and the letter with it.
use Rattle.std.specs.Prelude.{ℕ, List, [], ◌∷◌, ◌++◌, Option, None, Some, ◌==◌, if◌then◌else◌}
use Rattle.std.specs.Int.{w32, w64, to_be_bytes, from_be_bytes}
use Rattle.hot_spot_strip.specs.declared.shown.Shown.{Shown}
use Rattle.hot_spot_strip.specs.declared.shown.Side.{Side}
use Rattle.hot_spot_strip.specs.declared.shown.Side.TheVariants.{Left, Right}

abbrev pub side_byte : Side → ℕ
side_byte Left = 0
side_byte Right = 1

abbrev pub side_of : ℕ → Side
side_of byte = if byte == 0 then Left else Right

-- the body of a letter: the side, the round in four bytes, and the value in eight
abbrev pub body_of : Shown → List ℕ
body_of shown = side_byte shown.side ∷ (to_be_bytes w32 shown.round ++ to_be_bytes w64 shown.value)

-- what a body of 13 bytes has
abbrev pub shown_in : List ℕ → Option Shown
shown_in (side ∷ a ∷ b ∷ c ∷ d ∷ p ∷ q ∷ r ∷ s ∷ t ∷ u ∷ v ∷ w ∷ []) =
    Some (record { side = side_of side; round = from_be_bytes w32 (a ∷ b ∷ c ∷ d ∷ []); value = from_be_bytes w64 (p ∷ q ∷ r ∷ s ∷ t ∷ u ∷ v ∷ w ∷ []) })
shown_in _ = None
