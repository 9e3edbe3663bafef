-- Lists and byte lists are unpacked from their packs, whatever bytes follow.
use Rattle.std.specs.Prelude.{◌≡◌, ℕ, suc, ◌+◌, ◌≤◌, List, [], ◌∷◌, ◌++◌, length, flat_map, All, Result, Ok, false, nat_lt}
use Rattle.std.proofs.Common.{refl, arith, append_assoc, length-append, ◌∙◌, ap}
use Rattle.std.specs.Int.{w32, to_be_bytes, from_be_bytes}
use Rattle.std.proofs.lemmas.Nat.{from_be_bytes-to_be_bytes_4}
use Rattle.std.proofs.lemmas.Bool.Decides.{nat_tests}
use Rattle.std.proofs.lemmas.List.Elements.{All-head, All-tail}
use Rattle.std.proofs.Math.Seq.{drop-append_seam, take-append_seam}
use Rattle.chare_index.specs.declared.limits.TheConstants.Limits.{STATE_BYTES}
use Rattle.pup_pack.specs.declared.error.PupError.{PupError}
use Rattle.pup_pack.specs.Pairs.{within-few, le_first, le_second}
use Rattle.pup_pack.specs.Packing.{RoundTrip}
use Rattle.pup_pack.specs.Lists.{pack_list, unpack_count, unpack_items, unpack_list, pack_bytes, unpack_first, unpack_bytes, IsCounted}

pub items_round_trip : {T : Type 0} (fits counted : T → Type 0) (pack : T → List ℕ) (item : List ℕ → Result (T × ℕ) PupError) → RoundTrip fits counted pack item
    → (xs : List T) (rest : List ℕ) → All fits xs → All counted xs → length (flat_map pack xs) ≤ STATE_BYTES
    → unpack_items item (length xs) (flat_map pack xs ++ rest) ≡ Ok (xs, length (flat_map pack xs))
items_round_trip fits counted pack item law [] rest f c few = refl
items_round_trip fits counted pack item law (x ∷ xs) rest f c few =
    rw append_assoc (rw (
      law.trip x (flat_map pack xs ++ rest) (All-head fits x xs f) (All-head counted x xs c)
          (le_first (pack x) (flat_map pack xs) few),
      drop-append_seam (pack x) (flat_map pack xs ++ rest),
      items_round_trip fits counted pack item law xs rest (All-tail fits x xs f) (All-tail counted x xs c)
          (le_second (pack x) (flat_map pack xs) few),
      length-append (pack x) (flat_map pack xs),
    ) refl)

pub count_round_trip : (n : ℕ) (rest : List ℕ) → n ≤ STATE_BYTES → unpack_count (to_be_bytes w32 n ++ rest) ≡ Ok n
count_round_trip n rest few =
    let e : from_be_bytes w32 (to_be_bytes w32 n) ≡ n = from_be_bytes-to_be_bytes_4 n (omega arith) in
    rw e (grind (arith, nat_tests))

-- the four bytes of a count beside n more
pub count_more : (n : ℕ) → 4 + n ≡ suc (suc (suc (suc n)))
count_more n = omega arith

pub list_round_trip : {T : Type 0} (fits counted : T → Type 0) (pack : T → List ℕ) (item : List ℕ → Result (T × ℕ) PupError) → RoundTrip fits counted pack item
    → (xs : List T) (rest : List ℕ) → All fits xs → All counted xs → IsCounted xs → length (pack_list pack xs) ≤ STATE_BYTES
    → unpack_list item (pack_list pack xs ++ rest) ≡ Ok (xs, length (pack_list pack xs))
list_round_trip fits counted pack item law xs rest f c count few =
    rw append_assoc (rw (count_round_trip (length xs) (flat_map pack xs ++ rest) count)
    (rw (items_round_trip fits counted pack item law xs rest f c (le_second (to_be_bytes w32 (length xs)) (flat_map pack xs) few))
    (rw (count_more (length (flat_map pack xs))) (within-few xs (length (pack_list pack xs)) few))))

pub first_round_trip : (bytes rest : List ℕ) → 4 + length bytes ≤ STATE_BYTES → unpack_first (length bytes) (bytes ++ rest) ≡ Ok (bytes, 4 + length bytes)
first_round_trip bytes rest few =
    let enough : nat_lt (length (bytes ++ rest)) (length bytes) ≡ false = grind (arith, nat_tests, length-append bytes rest) in
    rw (enough, take-append_seam bytes rest) (within-few bytes (4 + length bytes) few)

pub bytes_round_trip : (bytes rest : List ℕ) → length (pack_bytes bytes) ≤ STATE_BYTES → unpack_bytes (pack_bytes bytes ++ rest) ≡ Ok (bytes, length (pack_bytes bytes))
bytes_round_trip bytes rest few =
    rw (count_round_trip (length bytes) (bytes ++ rest) (omega (arith, few)))
    (first_round_trip bytes rest (omega (arith, few)) ∙ ap (λ n. Ok (bytes, n)) (count_more (length bytes)))
