-- What the reader does with a word and the number after it.
use Rattle.std.proofs.Common.{◌≡◌, ℕ, ◌^◌, ◌<◌, ◌+◌, Bool, true, false, List, [], ◌∷◌, ◌++◌, length, take, drop, Option, Some, None, sym, ap, ◌∙◌, inl, inr, refl}
use Rattle.std.specs.Prelude.{MatchOption, ◌==◌}
use Rattle.std.specs.Option.{option_and_then}
use Rattle.std.specs.Fmt.{decimal}
use Rattle.std.specs.Borrow.{Bor}
use Rattle.std.specs.Cmp.Lexicographic.{pointwise}
use Rattle.std.proofs.Math.Dec.{eqb}
use Rattle.std.proofs.lemmas.Bool.{cases_Bool, eq-eqb, eqb-true}
use Rattle.run_checkpoint.specs.declared.form.TheConstants.{DIGITS}
use Rattle.run_checkpoint.specs.Scanning.{behind, digits_at, number_at}
use Rattle.run_checkpoint.proofs.Digits.{NoDigit, number_read, reads_number}

-- bytes that begin with a word
stripped : (word bytes : List ℕ) → pointwise eqb (take (length word) bytes) word ≡ true → behind word bytes ≡ Some (drop (length word) bytes)
stripped [] bytes same = refl
stripped (c ∷ word) [] same = cc
stripped (c ∷ word) (b ∷ bytes) same =
    elim (cases_Bool (b == c)) [
      | inl here ↦ rw here (stripped word bytes (rw here at same))
      | inr other ↦ absurd (let no : ◌≡◌ {A = Bool} false true = rw other at same in cc)
    ]

not_stripped : (word bytes : List ℕ) → pointwise eqb (take (length word) bytes) word ≡ false → behind word bytes ≡ None
not_stripped [] bytes other = cc
not_stripped (c ∷ word) [] other = refl
not_stripped (c ∷ word) (b ∷ bytes) other =
    elim (cases_Bool (b == c)) [
      | inl here ↦ rw here (not_stripped word bytes (rw here at other))
      | inr apart ↦ rw apart refl
    ]

pub stripped_as : (word bytes : List ℕ) (result : Option (Bor (List ℕ)))
    → MatchOption result (pointwise eqb (take (length word) bytes) word ≡ false)
    (λ x. (pointwise eqb (take (length word) bytes) word ≡ true) × (x.now ≡ drop (length word) bytes) × (length x.now + length word ≡ length bytes))
    → MatchOption result (behind word bytes ≡ None) (λ rest. behind word bytes ≡ Some rest.now)
stripped_as word bytes None cases = not_stripped word bytes cases
stripped_as word bytes (Some rest) cases = stripped word bytes cases.0 ∙ ap Some (sym cases.1)

-- the rest after a word
pub behind_word : (word rest : List ℕ) → behind word (word ++ rest) ≡ Some rest
behind_word [] rest = refl
behind_word (c ∷ word) rest = rw (eq-eqb c c refl) (behind_word word rest)

pub is_behind : (word bytes rest : List ℕ) → behind word bytes ≡ Some rest → bytes ≡ word ++ rest
is_behind [] bytes rest read = let same : bytes ≡ rest = cc in same
is_behind (c ∷ word) [] rest read = cc
is_behind (c ∷ word) (b ∷ bytes) rest read =
    elim (cases_Bool (b == c)) [
      | inl here ↦
          let later : bytes ≡ word ++ rest = is_behind word bytes rest (rw here at read) in
          let first : b ≡ c = eqb-true b c here in
          rw (first, later) refl
      | inr other ↦ absurd (let no : ◌≡◌ {A = Option (List ℕ)} None (Some rest) = rw other at read in cc)
    ]

-- no word begins these bytes
pub not_behind : (word bytes rest : List ℕ) → behind word bytes ≡ None → bytes ≡ word ++ rest → ⊥
not_behind word bytes rest none spelled =
    let read : behind word bytes ≡ Some rest = ap (behind word) spelled ∙ behind_word word rest in
    cc

-- the number after a word is read as it is
pub number_reads : (word : List ℕ) (n : ℕ) (rest : List ℕ) → n < 10 ^ DIGITS → NoDigit rest → number_at word (word ++ (decimal n ++ rest)) ≡ Some (n, rest)
number_reads word n rest small plain = ap (option_and_then (digits_at 0 0)) (behind_word word (decimal n ++ rest)) ∙ reads_number n rest small plain

-- and what is read is such a number
pub record IsNumberAt (word bytes : List ℕ) (n : ℕ) (rest : List ℕ) : Type 0 where
  pub spelled : bytes ≡ word ++ (decimal n ++ rest)
  pub small : n < 10 ^ DIGITS

pub is_number : (word bytes : List ℕ) (n : ℕ) (rest : List ℕ) → number_at word bytes ≡ Some (n, rest) → IsNumberAt word bytes n rest
is_number word bytes n rest read = by (behind word bytes) refl read
  where
    by : (o : Option (List ℕ)) → behind word bytes ≡ o → option_and_then (digits_at 0 0) o ≡ Some (n, rest) → IsNumberAt word bytes n rest
    by None none told = cc
    by (Some found) some told =
        let number = number_read found n rest told in
        record { spelled = is_behind word bytes found some ∙ ap (λ t. word ++ t) number.spelled; small = number.small }
