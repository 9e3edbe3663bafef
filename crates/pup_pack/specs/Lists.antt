-- Lists: the number of items in four bytes, then the items one after another.
use Rattle.std.specs.Prelude.{ℕ, zero, suc, ◌+◌, ◌≤◌, List, [], ◌∷◌, ◌++◌, length, take, drop, flat_map, Result, Ok, Err, nat_lt, cond}
use Rattle.std.specs.Int.{w32, to_be_bytes}
use Rattle.chare_index.specs.declared.limits.TheConstants.Limits.{STATE_BYTES}
use Rattle.pup_pack.specs.declared.error.PupError.{PupError}
use Rattle.pup_pack.specs.declared.error.PupError.TheVariants.{Short, TooLong}
use Rattle.pup_pack.specs.Packing.{and_then, within}
use Rattle.pup_pack.specs.Numbers.{unpack_u32}

abbrev pub pack_list : {T : Type 0} → (T → List ℕ) → List T → List ℕ
pack_list pack xs = to_be_bytes w32 (length xs) ++ flat_map pack xs

-- no list has more items than a pack may have bytes
abbrev pub IsCounted : {T : Type 0} → List T → Type 0
IsCounted xs = length xs ≤ STATE_BYTES

-- a count that is whole and within the limit
abbrev pub unpack_count : List ℕ → Result ℕ PupError
unpack_count bytes = and_then (unpack_u32 bytes) (λ c. cond (nat_lt STATE_BYTES c.0) (Err TooLong) (Ok c.0))

-- this number of items one after another, or the first refusal of one
abbrev pub unpack_items : {T : Type 0} → (List ℕ → Result (T × ℕ) PupError) → ℕ → List ℕ → Result (List T × ℕ) PupError
unpack_items item zero bytes = Ok ([], 0)
unpack_items item (suc n) bytes = and_then (item bytes) (λ x. and_then (unpack_items item n (drop x.1 bytes)) (λ xs. Ok (x.0 ∷ xs.0, x.1 + xs.1)))

abbrev pub unpack_list : {T : Type 0} → (List ℕ → Result (T × ℕ) PupError) → List ℕ → Result (List T × ℕ) PupError
unpack_list item bytes = and_then (unpack_count bytes) (λ n. and_then (unpack_items item n (drop 4 bytes)) (λ xs. within xs.0 (4 + xs.1)))

-- Byte lists: the number of bytes in four bytes, then the bytes.

abbrev pub pack_bytes : List ℕ → List ℕ
pack_bytes bytes = to_be_bytes w32 (length bytes) ++ bytes

-- the first n bytes, where there are as many
abbrev pub unpack_first : ℕ → List ℕ → Result (List ℕ × ℕ) PupError
unpack_first n bytes = cond (nat_lt (length bytes) n) (Err Short) (within (take n bytes) (4 + n))

abbrev pub unpack_bytes : List ℕ → Result (List ℕ × ℕ) PupError
unpack_bytes bytes = and_then (unpack_count bytes) (λ n. unpack_first n (drop 4 bytes))
