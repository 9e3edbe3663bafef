-- Signed numbers: the bytes of the number's two's complement.
use Rattle.std.specs.Prelude.{ℕ, ℤ, List, Result}
use Rattle.std.specs.Int.{Width, cast_unsigned, cast_signed}
use Rattle.pup_pack.specs.declared.error.PupError.{PupError}
use Rattle.pup_pack.specs.Structs.{made}

abbrev pub pack_signed : Width → (ℕ → List ℕ) → ℤ → List ℕ
pack_signed w pack z = pack (cast_unsigned w z)

abbrev pub unpack_signed : Width → (List ℕ → Result (ℕ × ℕ) PupError) → List ℕ → Result (ℤ × ℕ) PupError
unpack_signed w unpack bytes = made (cast_signed w) (unpack bytes)
