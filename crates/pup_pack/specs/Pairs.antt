-- Pairs: the first part, then the second.
use Rattle.std.specs.Prelude.{◌≡◌, ℕ, ◌+◌, ◌≤◌, List, ◌++◌, length, drop, Result, Ok}
use Rattle.std.proofs.Common.{arith, append_assoc, length-append}
use Rattle.std.proofs.lemmas.Bool.Decides.{nat_tests}
use Rattle.std.proofs.Math.Seq.{drop-append_seam}
use Rattle.chare_index.specs.declared.limits.TheConstants.Limits.{STATE_BYTES}
use Rattle.pup_pack.specs.declared.error.PupError.{PupError}
use Rattle.pup_pack.specs.Packing.{and_then, within}

-- the second part begins where the first one ends
abbrev pub unpack_pair : {T U : Type 0} → (List ℕ → Result (T × ℕ) PupError) → (List ℕ → Result (U × ℕ) PupError) → List ℕ → Result ((T × U) × ℕ) PupError
unpack_pair first second bytes = and_then (first bytes) (λ x. and_then (second (drop x.1 bytes)) (λ y. within (x.0, y.0) (x.1 + y.1)))

pub within-few : {T : Type 0} (x : T) (n : ℕ) → n ≤ STATE_BYTES → within x n ≡ Ok (x, n)
within-few x n few = grind (arith, nat_tests)

pub le_first : (xs ys : List ℕ) {n : ℕ} → length (xs ++ ys) ≤ n → length xs ≤ n
le_first xs ys few = omega (arith, length-append xs ys)

pub le_second : (xs ys : List ℕ) {n : ℕ} → length (xs ++ ys) ≤ n → length ys ≤ n
le_second xs ys few = omega (arith, length-append xs ys)

pub pair_round_trip : {T U : Type 0} (p : T → List ℕ) (q : U → List ℕ) (first : List ℕ → Result (T × ℕ) PupError)
    (second : List ℕ → Result (U × ℕ) PupError) (x : T) (y : U) (rest : List ℕ)
    → ((r : List ℕ) → first (p x ++ r) ≡ Ok (x, length (p x)))
    → ((r : List ℕ) → second (q y ++ r) ≡ Ok (y, length (q y)))
    → length (p x ++ q y) ≤ STATE_BYTES
    → unpack_pair first second ((p x ++ q y) ++ rest) ≡ Ok ((x, y), length (p x ++ q y))
pair_round_trip p q first second x y rest a b few =
    rw append_assoc (rw (a (q y ++ rest), drop-append_seam (p x) (q y ++ rest), b rest, ← length-append (p x) (q y)) (within-few (x, y) (length (p x ++ q y)) few))
