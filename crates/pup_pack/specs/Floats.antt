-- Floats: the bytes of the number whose binary digits are those of the float. There is one NaN, which has no sign and no payload.
use Rattle.std.specs.Prelude.{◌≡◌, ℕ, List, true, Result, to_bits, from_bits}
use Rattle.std.specs.Float.{Float, Format}
use Rattle.std.specs.Float.Ieee.{fits}
use Rattle.pup_pack.specs.declared.error.PupError.{PupError}
use Rattle.pup_pack.specs.Structs.{made}

-- the format has this number, written in the one way
abbrev pub IsFloat : Format → Float → Type 0
IsFloat f x = fits f x ≡ true

abbrev pub pack_float : Format → (ℕ → List ℕ) → Float → List ℕ
pack_float f pack x = pack (to_bits f x)

abbrev pub unpack_float : Format → (List ℕ → Result (ℕ × ℕ) PupError) → List ℕ → Result (Float × ℕ) PupError
unpack_float f unpack bytes = made (from_bits f) (unpack bytes)
