-- What packing and unpacking return.
use Rattle.std.specs.Prelude.{◌≡◌, ℕ, ◌≤◌, List, ◌++◌, length, Result, Ok, Err, ⊤, nat_lt, cond}
use Rattle.chare_index.specs.declared.limits.TheConstants.Limits.{STATE_BYTES}
use Rattle.pup_pack.specs.declared.error.PupError.{PupError}
use Rattle.pup_pack.specs.declared.error.PupError.TheVariants.{Short, Bad, TooLong, OutOfMemory}

-- the result of packing a value into n bytes: it packs exactly where its lists are counted and the bytes are few
-- enough, and too many bytes are never reported as out of memory
abbrev pub PackAnswer : Type 0 → ℕ → Result ⊤ PupError → Type 0
PackAnswer counted n (Ok _) = counted × (n ≤ STATE_BYTES)
PackAnswer counted n (Err TooLong) = ¬ (counted × (n ≤ STATE_BYTES))
PackAnswer counted n (Err OutOfMemory) = n ≤ STATE_BYTES
PackAnswer counted n (Err Short) = ⊥
PackAnswer counted n (Err Bad) = ⊥

-- the result of unpacking: what the bytes unpack to, or out of memory
abbrev pub UnpackAnswer : {T : Type 0} → Result T PupError → Result T PupError → Type 0
UnpackAnswer expected (Ok x) = expected ≡ Ok x
UnpackAnswer expected (Err Short) = expected ≡ Err Short
UnpackAnswer expected (Err Bad) = expected ≡ Err Bad
UnpackAnswer expected (Err TooLong) = expected ≡ Err TooLong
UnpackAnswer expected (Err OutOfMemory) = Unit {0}

-- the first refusal of two steps, or the result of the second on that of the first
abbrev pub and_then : {T U : Type 0} → Result T PupError → (T → Result U PupError) → Result U PupError
and_then (Ok x) next = next x
and_then (Err e) next = Err e

-- a value of n bytes, which is refused where the bytes are too many
abbrev pub within : {T : Type 0} → T → ℕ → Result (T × ℕ) PupError
within x n = cond (nat_lt STATE_BYTES n) (Err TooLong) (Ok (x, n))

-- a value that packs is unpacked from its pack, whatever bytes follow
pub record RoundTrip {T : Type 0} (fits counted : T → Type 0) (pack : T → List ℕ) (unpack : List ℕ → Result (T × ℕ) PupError) : Type 0 where
  pub trip : (x : T) (rest : List ℕ) → fits x → counted x → length (pack x) ≤ STATE_BYTES → unpack (pack x ++ rest) ≡ Ok (x, length (pack x))

-- the law in the form that a trait has
abbrev pub trips_by : {T : Type 0} (fits counted : T → Type 0) (pack : T → List ℕ) (unpack : List ℕ → Result (T × ℕ) PupError)
    → ((x : T) (rest : List ℕ) → fits x → counted x → length (pack x) ≤ STATE_BYTES → unpack (pack x ++ rest) ≡ Ok (x, length (pack x)))
    → RoundTrip fits counted pack unpack
trips_by fits counted pack unpack law = record { trip = law }
