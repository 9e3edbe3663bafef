-- Numbers: the bytes of one, the highest first.
use Rattle.std.specs.Prelude.{◌≡◌, ℕ, ◌<◌, ◌^◌, List, [], ◌∷◌, ◌++◌, length, Result, Ok, Err}
use Rattle.std.specs.Int.{w16, w32, w64, to_be_bytes, from_be_bytes}
use Rattle.std.proofs.Common.{refl}
use Rattle.std.proofs.lemmas.Nat.{from_be_bytes-to_be_bytes_2, from_be_bytes-to_be_bytes_4, from_be_bytes-to_be_bytes_8}
use Rattle.pup_pack.specs.declared.error.PupError.{PupError}
use Rattle.pup_pack.specs.declared.error.PupError.TheVariants.{Short}

abbrev pub pack_u8 : ℕ → List ℕ
pack_u8 n = n ∷ []

abbrev pub unpack_u8 : List ℕ → Result (ℕ × ℕ) PupError
unpack_u8 (a ∷ rest) = Ok (a, 1)
unpack_u8 [] = Err Short

abbrev pub unpack_u16 : List ℕ → Result (ℕ × ℕ) PupError
unpack_u16 (a ∷ b ∷ rest) = Ok (from_be_bytes w16 (a ∷ b ∷ []), 2)
unpack_u16 _ = Err Short

pub u16_round_trip : (n : ℕ) (rest : List ℕ) → n < 2 ^ 16 → unpack_u16 (to_be_bytes w16 n ++ rest) ≡ Ok (n, length (to_be_bytes w16 n))
u16_round_trip n rest fit = rw from_be_bytes-to_be_bytes_2 refl

abbrev pub unpack_u32 : List ℕ → Result (ℕ × ℕ) PupError
unpack_u32 (a ∷ b ∷ c ∷ d ∷ rest) = Ok (from_be_bytes w32 (a ∷ b ∷ c ∷ d ∷ []), 4)
unpack_u32 _ = Err Short

pub u32_round_trip : (n : ℕ) (rest : List ℕ) → n < 2 ^ 32 → unpack_u32 (to_be_bytes w32 n ++ rest) ≡ Ok (n, length (to_be_bytes w32 n))
u32_round_trip n rest fit = rw from_be_bytes-to_be_bytes_4 refl

abbrev pub unpack_u64 : List ℕ → Result (ℕ × ℕ) PupError
unpack_u64 (a ∷ b ∷ c ∷ d ∷ e ∷ f ∷ g ∷ h ∷ rest) = Ok (from_be_bytes w64 (a ∷ b ∷ c ∷ d ∷ e ∷ f ∷ g ∷ h ∷ []), 8)
unpack_u64 _ = Err Short

pub u64_round_trip : (n : ℕ) (rest : List ℕ) → n < 2 ^ 64 → unpack_u64 (to_be_bytes w64 n ++ rest) ≡ Ok (n, length (to_be_bytes w64 n))
u64_round_trip n rest fit = rw from_be_bytes-to_be_bytes_8 refl
