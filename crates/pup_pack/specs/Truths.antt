-- Truth values: one byte, which is 0 or 1.
use Rattle.std.specs.Prelude.{◌≡◌, ℕ, zero, suc, Bool, true, false, List, Option, Some, None, Result}
use Rattle.std.proofs.Common.{refl}
use Rattle.pup_pack.specs.declared.error.PupError.{PupError}
use Rattle.pup_pack.specs.Numbers.{pack_u8, unpack_u8}
use Rattle.pup_pack.specs.Structs.{decoded}

abbrev pub bool_code : Bool → ℕ
bool_code false = 0
bool_code true = 1

abbrev pub bool_of : ℕ → Option Bool
bool_of zero = Some false
bool_of (suc zero) = Some true
bool_of (suc (suc _)) = None

pub bool_again : (b : Bool) → bool_of (bool_code b) ≡ Some b
bool_again false = refl
bool_again true = refl

abbrev pub pack_bool : Bool → List ℕ
pack_bool b = pack_u8 (bool_code b)

abbrev pub unpack_bool : List ℕ → Result (Bool × ℕ) PupError
unpack_bool bytes = decoded bool_of (unpack_u8 bytes)
