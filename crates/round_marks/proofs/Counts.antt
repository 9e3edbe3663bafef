-- How often a number is among the numbers from one on.
use Rattle.std.proofs.Common.{◌≡◌, ℕ, zero, suc, ◌+◌, ◌<◌, ◌≤◌, ◌==◌, cond, List, ◌∷◌, count_by, refl, ◌∙◌, inl, inr, arith}
use Rattle.std.specs.List.{range_with_len}
use Rattle.std.proofs.lemmas.List.Sums.{sum_by-cons}
use Rattle.std.proofs.lemmas.Bool.{cases_lt}
use Rattle.std.proofs.lemmas.Bool.Decides.{nat_tests}

-- of the first of a list, and of the others
counted : (q x : ℕ) (xs : List ℕ) → count_by (λ y. y == q) (x ∷ xs) ≡ cond (x == q) 1 0 + count_by (λ y. y == q) xs
counted q x xs = sum_by-cons (λ y. cond (y == q) 1 0) x xs

-- it is not among those after it
before : (q a n : ℕ) → q < a → count_by (λ y. y == q) (range_with_len a n) ≡ 0
before q a zero h = refl
before q a (suc n) h =
    let rest = before q (a + 1) n (omega arith) in
    counted q a (range_with_len (a + 1) n) ∙ grind (arith, nat_tests)

-- nor among those before it
pub past : (q a n : ℕ) → a + n ≤ q → count_by (λ y. y == q) (range_with_len a n) ≡ 0
past q a zero h = refl
past q a (suc n) h =
    let rest = past q (a + 1) n (omega arith) in
    counted q a (range_with_len (a + 1) n) ∙ grind (arith, nat_tests)

-- it is there once among numbers that it is one of
pub once : (q a n : ℕ) → a ≤ q → q < a + n → count_by (λ y. y == q) (range_with_len a n) ≡ 1
once q a zero low high = absurd (omega arith)
once q a (suc n) low high =
    elim (cases_lt a q) [
      | inl less ↦
          let rest = once q (a + 1) n (omega arith) (omega arith) in
          counted q a (range_with_len (a + 1) n) ∙ grind (arith, nat_tests)
      | inr more ↦
          let rest = before q (a + 1) n (omega arith) in
          counted q a (range_with_len (a + 1) n) ∙ grind (arith, nat_tests)
    ]

-- and never more than once
pub once_at_most : (q a n : ℕ) → count_by (λ y. y == q) (range_with_len a n) ≤ 1
once_at_most q a n =
    elim (cases_lt q a) [
      | inl less ↦ omega (arith, before q a n less)
      | inr more ↦ elim (cases_lt q (a + n)) [
        | inl within ↦ omega (arith, once q a n more within)
        | inr outside ↦ omega (arith, past q a n outside)
      ]
    ]
