-- Values that may be absent: a byte that is 1 where there is one and 0 where there is none, then the value.
use Rattle.std.specs.Prelude.{◌≡◌, ℕ, zero, suc, ◌+◌, ◌≤◌, List, [], ◌∷◌, ◌++◌, length, Option, Some, None, IfSome, Result, Ok, Err}
use Rattle.std.proofs.Common.{refl, arith, ap, ◌∙◌}
use Rattle.chare_index.specs.declared.limits.TheConstants.Limits.{STATE_BYTES}
use Rattle.pup_pack.specs.declared.error.PupError.{PupError}
use Rattle.pup_pack.specs.declared.error.PupError.TheVariants.{Short, Bad}
use Rattle.pup_pack.specs.Packing.{RoundTrip, and_then, within}
use Rattle.pup_pack.specs.Pairs.{within-few}

abbrev pub pack_option : {T : Type 0} → (T → List ℕ) → Option T → List ℕ
pack_option pack None = 0 ∷ []
pack_option pack (Some x) = 1 ∷ pack x

-- what follows the byte that says whether there is a value
abbrev pub unpack_tagged : {T : Type 0} → (List ℕ → Result (T × ℕ) PupError) → ℕ → List ℕ → Result (Option T × ℕ) PupError
unpack_tagged item zero rest = Ok (None, 1)
unpack_tagged item (suc zero) rest = and_then (item rest) (λ x. within (Some x.0) (1 + x.1))
unpack_tagged item (suc (suc _)) rest = Err Bad

abbrev pub unpack_option : {T : Type 0} → (List ℕ → Result (T × ℕ) PupError) → List ℕ → Result (Option T × ℕ) PupError
unpack_option item [] = Err Short
unpack_option item (tag ∷ rest) = unpack_tagged item tag rest

-- the byte beside n more
pub one_more : (n : ℕ) → 1 + n ≡ suc n
one_more n = omega arith

pub option_round_trip : {T : Type 0} (fits counted : T → Type 0) (pack : T → List ℕ) (item : List ℕ → Result (T × ℕ) PupError) → RoundTrip fits counted pack item
    → (o : Option T) (rest : List ℕ) → IfSome o fits → IfSome o counted → length (pack_option pack o) ≤ STATE_BYTES
    → unpack_option item (pack_option pack o ++ rest) ≡ Ok (o, length (pack_option pack o))
option_round_trip fits counted pack item law None rest fit count few = refl
option_round_trip fits counted pack item law (Some x) rest fit count few =
    rw (law.trip x rest fit count (omega (arith, few))) (within-few (Some x) (1 + length (pack x)) (omega (arith, few)) ∙ ap (λ n. Ok (Some x, n)) (one_more (length (pack x))))
