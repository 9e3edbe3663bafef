-- Sums that are noted in a list, one after another.
use Rattle.std.proofs.Common.{◌≡◌, ◌≢◌, ◌⊎◌, inl, inr, ℕ, ◌+◌, ◌<◌, ◌==◌, List, [], ◌∷◌, length, true, false, if◌then◌else◌, get_or, set, arith, refl, sym, subst, ◌∙◌}
use Rattle.std.specs.Map.{lookup}
use Rattle.std.specs.Option.{option_map_or}
use Rattle.std.proofs.lemmas.Bool.Decides.{eqb_tells}
use Rattle.std.proofs.lemmas.Grind.{get_or-set_at}
use Rattle.std.proofs.lemmas.List.{length-set, get_or-set_other}
use Rattle.std.proofs.lemmas.List.Sums.{sum_by-cons}
use Rattle.std.proofs.lemmas.Map.Entries.{lookup_head, lookup_tail}
use Rattle.rts_core.specs.Accounts.{times}
use Rattle.run_account.specs.Noting.{with_noted}

-- how often an element is named
abbrev pub named : ℕ → List (ℕ × ℕ) → ℕ
named e xs = times (λ x. x.0 == e) xs

-- the sum beside the first name of an element
abbrev pub first_sum : ℕ → List (ℕ × ℕ) → ℕ
first_sum e xs = option_map_or (λ sum. sum) (lookup (λ i. i == e) xs) 0

pub named_here : (e : ℕ) (x : ℕ × ℕ) (xs : List (ℕ × ℕ)) → (x.0 == e) ≡ true → named e (x ∷ xs) ≡ 1 + named e xs
named_here e x xs here = sum_by-cons (λ (y : ℕ × ℕ). if y.0 == e then 1 else 0) x xs ∙ rw here refl

pub named_there : (e : ℕ) (x : ℕ × ℕ) (xs : List (ℕ × ℕ)) → (x.0 == e) ≡ false → named e (x ∷ xs) ≡ named e xs
named_there e x xs there = sum_by-cons (λ (y : ℕ × ℕ). if y.0 == e then 1 else 0) x xs ∙ rw there (omega arith)

-- an element that is not named keeps what is at its index
pub not_named : (e : ℕ) (sums : List ℕ) (xs : List (ℕ × ℕ)) → named e xs ≡ 0 → get_or (with_noted sums xs) e 0 ≡ get_or sums e 0
not_named e sums [] none = refl
not_named e sums (x ∷ xs) none = by (not_named e (set sums x.0 x.1) xs) (eqb_tells x.0 e)
  where
    by : (named e xs ≡ 0 → get_or (with_noted (set sums x.0 x.1) xs) e 0 ≡ get_or (set sums x.0 x.1) e 0)
        → (((x.0 == e) ≡ true) × (x.0 ≡ e)) ⊎ (((x.0 == e) ≡ false) × (x.0 ≢ e)) → get_or (with_noted (set sums x.0 x.1) xs) e 0 ≡ get_or sums e 0
    by rest (inl here) = absurd (omega (arith, named_here e x xs here.0, none))
    by rest (inr there) =
        rest (sym (named_there e x xs there.0) ∙ none) ∙ get_or-set_other sums x.0 e x.1 0 (λ same. there.1 (sym same))

-- at the index of an element that is named once is its sum
pub named_once : (e : ℕ) (sums : List ℕ) (xs : List (ℕ × ℕ)) → e < length sums → named e xs ≡ 1 → get_or (with_noted sums xs) e 0 ≡ first_sum e xs
named_once e sums [] inside once = absurd (omega arith)
named_once e sums (x ∷ xs) inside once =
    by (named_once e (set sums x.0 x.1) xs (subst (λ n. e < n) (sym (length-set sums x.0 x.1)) inside)) (eqb_tells x.0 e)
  where
    by : (named e xs ≡ 1 → get_or (with_noted (set sums x.0 x.1) xs) e 0 ≡ first_sum e xs)
        → (((x.0 == e) ≡ true) × (x.0 ≡ e)) ⊎ (((x.0 == e) ≡ false) × (x.0 ≢ e)) → get_or (with_noted (set sums x.0 x.1) xs) e 0 ≡ first_sum e (x ∷ xs)
    by rest (inl here) =
        not_named e (set sums x.0 x.1) xs (omega (arith, named_here e x xs here.0, once))
        ∙ get_or-set_at sums x.0 e x.1 0 (sym here.1) (subst (λ i. i < length sums) (sym here.1) inside)
        ∙ rw (lookup_head (λ i. i == e) x xs here.0) refl
    by rest (inr there) =
        rest (sym (named_there e x xs there.0) ∙ once) ∙ rw (lookup_tail (λ i. i == e) x xs there.0) refl
