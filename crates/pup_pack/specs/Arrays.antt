-- Arrays: the items one after another. Their number is part of the type, and so it is not packed, as in a fixed-length array of XDR
-- (RFC 4506, section 4.12) and by `PUParray` of Charm++.
use Rattle.std.specs.Prelude.{◌≡◌, ℕ, ◌≤◌, List, ◌++◌, length, flat_map, All, Result, Ok, Err, false, nat_lt, cond}
use Rattle.std.proofs.Common.{arith}
use Rattle.std.proofs.lemmas.Bool.Decides.{nat_tests}
use Rattle.chare_index.specs.declared.limits.TheConstants.Limits.{STATE_BYTES}
use Rattle.pup_pack.specs.declared.error.PupError.{PupError}
use Rattle.pup_pack.specs.declared.error.PupError.TheVariants.{TooLong}
use Rattle.pup_pack.specs.Packing.{RoundTrip, and_then, within}
use Rattle.pup_pack.specs.Pairs.{within-few}
use Rattle.pup_pack.specs.Lists.{IsCounted, unpack_items}
use Rattle.pup_pack.specs.ListTrips.{items_round_trip}

-- n items that fit
abbrev pub AreItems : {T : Type 0} → (T → Type 0) → ℕ → List T → Type 0
AreItems fits n xs = (length xs ≡ n) × All fits xs

abbrev pub pack_array : {T : Type 0} → (T → List ℕ) → List T → List ℕ
pack_array pack xs = flat_map pack xs

-- n items, which no array of a pack has more of than the pack has bytes
abbrev pub unpack_array : {T : Type 0} → (List ℕ → Result (T × ℕ) PupError) → ℕ → List ℕ → Result (List T × ℕ) PupError
unpack_array item n bytes = cond (nat_lt STATE_BYTES n) (Err TooLong) (and_then (unpack_items item n bytes) (λ xs. within xs.0 xs.1))

pub array_round_trip : {T : Type 0} (fits counted : T → Type 0) (pack : T → List ℕ) (item : List ℕ → Result (T × ℕ) PupError) → RoundTrip fits counted pack item
    → (n : ℕ) (xs : List T) (rest : List ℕ) → AreItems fits n xs → All counted xs → IsCounted xs → length (pack_array pack xs) ≤ STATE_BYTES
    → unpack_array item n (pack_array pack xs ++ rest) ≡ Ok (xs, length (pack_array pack xs))
array_round_trip fits counted pack item law n xs rest fit c count few =
    let small : nat_lt STATE_BYTES (length xs) ≡ false = grind (arith, nat_tests, count) in
    rw (← fit.0, small, items_round_trip fits counted pack item law xs rest fit.1 c few) (within-few xs (length (flat_map pack xs)) few)
