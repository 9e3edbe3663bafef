-- A struct packs into its fields, one after another.
use Rattle.std.specs.Prelude.{◌≡◌, ℕ, Bool, true, cond, Option, Some, None, Result, Ok, Err}
use Rattle.std.proofs.Common.{refl}
use Rattle.pup_pack.specs.declared.error.PupError.{PupError}
use Rattle.pup_pack.specs.declared.error.PupError.TheVariants.{Bad}
use Rattle.pup_pack.specs.Packing.{and_then}

-- the struct of the fields that were unpacked
abbrev pub made : {F S : Type 0} → (F → S) → Result (F × ℕ) PupError → Result (S × ℕ) PupError
made make fields = and_then fields (λ x. Ok (make x.0, x.1))

-- a value that the type's own test passes, or Bad
abbrev pub judged : {S : Type 0} → (S → Bool) → Result (S × ℕ) PupError → Result (S × ℕ) PupError
judged test value = and_then value (λ x. cond (test x.0) (Ok x) (Err Bad))

-- what a value was written as, or Bad where no value was written so
abbrev pub read_or_bad : {S : Type 0} → ℕ → Option S → Result (S × ℕ) PupError
read_or_bad n (Some s) = Ok (s, n)
read_or_bad n None = Err Bad

abbrev pub decoded : {F S : Type 0} → (F → Option S) → Result (F × ℕ) PupError → Result (S × ℕ) PupError
decoded read value = and_then value (λ x. read_or_bad x.1 (read x.0))

-- a struct is unpacked where its fields are
pub made_round_trip : {F S : Type 0} (make : F → S) (fields : Result (F × ℕ) PupError) (x : F) (n : ℕ) → fields ≡ Ok (x, n) → made make fields ≡ Ok (make x, n)
made_round_trip make fields x n unpacked = rw unpacked refl

-- a value that passes the test is unpacked
pub judged_round_trip : {S : Type 0} (test : S → Bool) (value : Result (S × ℕ) PupError) (s : S) (n : ℕ) → test s ≡ true → value ≡ Ok (s, n) → judged test value ≡ Ok (s, n)
judged_round_trip test value s n passes unpacked = rw (unpacked, passes) refl

-- a value is read from what it was written as
pub decoded_round_trip : {F S : Type 0} (read : F → Option S) (value : Result (F × ℕ) PupError) (x : F) (s : S) (n : ℕ) → read x ≡ Some s
    → value ≡ Ok (x, n) → decoded read value ≡ Ok (s, n)
decoded_round_trip read value x s n reads unpacked = rw (unpacked, reads) refl
