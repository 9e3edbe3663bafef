-- Lists of bytes that end in zeros.
use Rattle.std.specs.Prelude.{◌≡◌, ℕ, zero, suc, ◌-◌, ◌≤◌, List, [], ◌∷◌, ◌++◌, length, take, replicate, Bool, true, not, ◌&&◌, nat_lt, nat_eq, Option, Some, None, if◌then◌else◌}
use Rattle.std.specs.Int.{w32, to_be_bytes}
use Rattle.std.proofs.Common.{refl, ap, arith}
use Rattle.std.proofs.lemmas.List.{length-replicate, length-take-le}
use Rattle.std.proofs.lemmas.Bool.Decides.{nat_tests}
use native.Mathlib.Numerals.{unary_clauses}
use Rattle.chare_index.specs.declared.limits.TheConstants.Limits.{STATE_BYTES}
use Rattle.pup_pack.specs.Lists.{IsCounted, pack_bytes, unpack_bytes}
use Rattle.pup_pack.specs.Numbers.{unpack_u32}
use Rattle.pup_pack.specs.Packing.{RoundTrip}
use Rattle.pup_pack.specs.Pairs.{unpack_pair}
use Rattle.pup_pack.specs.Structs.{made, decoded}
use Rattle.pup_pack.specs.Trips.{bytes_trips, coded_trips, decoded_trips, pair_trips, u32_trips}
use Rattle.pup_pack.specs.declared.error.PupError.{PupError}
use Rattle.pup_pack.specs.declared.error.PupError.TheVariants.{OutOfMemory, TooLong}

-- this many zeros
abbrev pub zeros : ℕ → List ℕ
zeros n = replicate n 0

pub zeros_trips : RoundTrip (λ n. Unit {0}) (λ n. IsCounted (zeros n)) (λ n. pack_bytes (zeros n)) (λ bytes. made length (unpack_bytes bytes))
zeros_trips = coded_trips (λ n. Unit {0}) zeros length (λ n fit. length-replicate n 0) (λ n fit. tt) bytes_trips

-- how many bytes come before the zeros at the end: of a list with one more byte in front, from how many that are of the rest
abbrev pub kept_before : ℕ → ℕ → ℕ
kept_before zero zero = 0
kept_before (suc x) zero = 1
kept_before x (suc k) = suc (suc k)

abbrev pub kept_of : List ℕ → ℕ
kept_of [] = 0
kept_of (x ∷ xs) = kept_before x (kept_of xs)

abbrev pub trimmed : List ℕ → List ℕ
trimmed xs = take (kept_of xs) xs

-- the length, and the bytes before the zeros
abbrev pub trimmed_parts : List ℕ → ℕ × List ℕ
trimmed_parts xs = (length xs, trimmed xs)

-- the list with these parts, and whether there is one
abbrev pub padded : ℕ × List ℕ → List ℕ
padded x = x.1 ++ zeros (x.0 - length x.1)

abbrev pub is_trimmed : ℕ × List ℕ → Bool
is_trimmed x = not (nat_lt STATE_BYTES x.0) && (not (nat_lt x.0 (length x.1)) && nat_eq (kept_of x.1) (length x.1))

abbrev pub trimmed_read : ℕ × List ℕ → Option (List ℕ)
trimmed_read x = if is_trimmed x then Some (padded x) else None

abbrev pub FitsTrimmed : List ℕ → Type 0
FitsTrimmed xs = length xs ≤ STATE_BYTES

-- why there is no copy of a list: it is longer than a pack may be; or it is not, and memory was refused
abbrev pub RefusesCopy : List ℕ → PupError → Type 0
RefusesCopy xs TooLong = ¬ (FitsTrimmed xs)
RefusesCopy xs OutOfMemory = FitsTrimmed xs
RefusesCopy xs error = ⊥

-- no more than there are
kept_le_before : (x k n : ℕ) → k ≤ n → kept_before x k ≤ suc n
kept_le_before zero zero n le = omega (arith, le)
kept_le_before (suc x) zero n le = omega (arith, le)
kept_le_before x (suc k) n le = omega (arith, le)

pub kept_le : (xs : List ℕ) → kept_of xs ≤ length xs
kept_le [] = omega arith
kept_le (x ∷ xs) = kept_le_before x (kept_of xs) (length xs) (kept_le xs)

-- the bytes before, and zeros: the list again
again_before : (x k : ℕ) (xs : List ℕ) → take k xs ++ zeros (length xs - k) ≡ xs
    → take (kept_before x k) (x ∷ xs) ++ zeros (suc (length xs) - kept_before x k) ≡ x ∷ xs
again_before zero zero xs e = simp unary_clauses (ap (λ ys. 0 ∷ ys) (simp unary_clauses at e))
again_before (suc x) zero xs e = simp unary_clauses (ap (λ ys. suc x ∷ ys) (simp unary_clauses at e))
again_before x (suc k) xs e = simp unary_clauses (ap (λ ys. x ∷ ys) (simp unary_clauses at e))

again_by : (xs : List ℕ) → trimmed xs ++ zeros (length xs - kept_of xs) ≡ xs
again_by [] = refl
again_by (x ∷ xs) = again_before x (kept_of xs) xs (again_by xs)

pub again : (xs : List ℕ) → padded (trimmed_parts xs) ≡ xs
again xs = rw (length-take-le (kept_of xs) xs (kept_le xs)) (again_by xs)

-- of what comes before the zeros all is kept
trimmed_again_before : (x k : ℕ) (xs : List ℕ) → kept_of (take k xs) ≡ k → kept_of (take (kept_before x k) (x ∷ xs)) ≡ kept_before x k
trimmed_again_before zero zero xs e = refl
trimmed_again_before (suc x) zero xs e = refl
trimmed_again_before x (suc k) xs e = ap (kept_before x) e

pub trimmed_again : (xs : List ℕ) → kept_of (trimmed xs) ≡ kept_of xs
trimmed_again [] = refl
trimmed_again (x ∷ xs) = trimmed_again_before x (kept_of xs) xs (trimmed_again xs)

-- the parts of a list that is no longer than a pack are those of a list
pub parts_read : (xs : List ℕ) → length xs ≤ STATE_BYTES → is_trimmed (trimmed_parts xs) ≡ true
parts_read xs few =
    let k : kept_of (trimmed xs) ≡ kept_of xs = trimmed_again xs in let n : length (trimmed xs) ≡ kept_of xs = length-take-le (kept_of xs) xs (kept_le xs) in
    let le : kept_of xs ≤ length xs = kept_le xs in
    rw (k, n) (grind (arith, nat_tests))

pub trimmed_reads : (xs : List ℕ) → length xs ≤ STATE_BYTES → trimmed_read (trimmed_parts xs) ≡ Some xs
trimmed_reads xs few = rw (parts_read xs few) (ap Some (again xs))

pub trimmed_trips : RoundTrip FitsTrimmed (λ xs. Unit {0} × IsCounted (trimmed xs)) (λ xs. to_be_bytes w32 (length xs) ++ pack_bytes (trimmed xs))
    (λ bytes. decoded trimmed_read (unpack_pair unpack_u32 unpack_bytes bytes))
trimmed_trips = decoded_trips FitsTrimmed trimmed_parts trimmed_read trimmed_reads (λ xs few. (omega (arith, few), tt)) (pair_trips u32_trips bytes_trips)
