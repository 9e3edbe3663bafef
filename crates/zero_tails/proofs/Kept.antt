-- What is kept of a list of bytes.
use Rattle.std.proofs.Common.{◌≡◌, ℕ, zero, suc, ◌-◌, ◌≤◌, ◌<◌, List, [], ◌∷◌, ◌++◌, length, take, get_or, true, refl, sym, ap, ◌∙◌, subst, arith, length-append}
use Rattle.std.proofs.lemmas.List.{length-replicate, length-take-le}
use Rattle.std.proofs.lemmas.Bool.Decides.{nat_tests}
use Rattle.std.proofs.Math.Seq.{take-suc, take-append_seam}
use Rattle.chare_index.specs.declared.limits.TheConstants.Limits.{STATE_BYTES}
use Rattle.zero_tails.specs.Tails.{zeros, kept_before, kept_of, trimmed, padded, is_trimmed}

-- a zero more at the end changes nothing; of a list with another byte at the end all is kept
pub kept_zero : (xs : List ℕ) → kept_of (xs ++ 0 ∷ []) ≡ kept_of xs
kept_zero [] = refl
kept_zero (x ∷ xs) = ap (kept_before x) (kept_zero xs)

kept_whole_before : (x k n : ℕ) → k ≡ suc n → kept_before x k ≡ suc (suc n)
kept_whole_before x k n e = rw e refl

pub kept_whole : (xs : List ℕ) (y : ℕ) → kept_of (xs ++ suc y ∷ []) ≡ suc (length xs)
kept_whole [] y = refl
kept_whole (x ∷ xs) y = kept_whole_before x (kept_of (xs ++ suc y ∷ [])) (length xs) (kept_whole xs y)

-- zeros at the end change nothing
zeros_next : (n : ℕ) → zeros (suc n) ≡ 0 ∷ zeros n
zeros_next n = refl

kept_zeros : (n : ℕ) → kept_of (zeros n) ≡ 0
kept_zeros zero = refl
kept_zeros (suc n) = ap (kept_before 0) (kept_zeros n)

kept_padded : (xs : List ℕ) (n : ℕ) → kept_of (xs ++ zeros n) ≡ kept_of xs
kept_padded [] n = kept_zeros n
kept_padded (x ∷ xs) n = ap (kept_before x) (kept_padded xs n)

-- the parts of the list that is made of parts are these
length_padded : (n : ℕ) (xs : List ℕ) → length xs ≤ n → length (xs ++ zeros (n - length xs)) ≡ n
length_padded n xs le = rw (length-append, length-replicate) (omega (arith, le))

pub within : (n : ℕ) (xs : List ℕ) → is_trimmed (n, xs) ≡ true → (n ≤ STATE_BYTES) × ((length xs ≤ n) × (kept_of xs ≡ length xs))
within n xs is = (grind (arith, nat_tests), (grind (arith, nat_tests), grind (arith, nat_tests)))

pub length_again : (n : ℕ) (xs : List ℕ) → is_trimmed (n, xs) ≡ true → length (padded (n, xs)) ≡ n
length_again n xs is = length_padded n xs (within n xs is).1.0

pub trimmed_padded : (n : ℕ) (xs : List ℕ) → is_trimmed (n, xs) ≡ true → trimmed (padded (n, xs)) ≡ xs
trimmed_padded n xs is =
    ap (λ (k : ℕ). take k (padded (n, xs))) (kept_padded xs (n - length xs) ∙ (within n xs is).1.1) ∙ take-append_seam xs (zeros (n - length xs))

-- of a list, taken up to a byte that is no zero, all is kept; and up to one that is, what is kept of the rest
kept_at_next : (xs : List ℕ) (k y : ℕ) → suc k ≤ length xs → get_or xs k 0 ≡ y → (y ≡ 0 → ⊥) → kept_of (take (suc k) xs) ≡ suc k
kept_at_next xs k zero less is not_zero = absurd (not_zero refl)
kept_at_next xs k (suc y) less is not_zero = rw (take-suc xs k 0, is) (kept_whole (take k xs) y ∙ ap suc (length-take-le k xs (omega (arith, less))))

pub kept_at : (xs : List ℕ) (k : ℕ) → 0 < k → k ≤ length xs → (get_or xs (k - 1) 0 ≡ 0 → ⊥) → kept_of (take k xs) ≡ k
kept_at xs zero some less not_zero = absurd (omega (arith, some))
kept_at xs (suc k) some less not_zero =
    let e : suc k - 1 ≡ k = omega arith in
    kept_at_next xs k (get_or xs k 0) less refl (subst (λ (j : ℕ). get_or xs j 0 ≡ 0 → ⊥) e not_zero)

pub kept_down : (xs : List ℕ) (k : ℕ) → 0 < k → k ≤ length xs → get_or xs (k - 1) 0 ≡ 0 → kept_of (take (k - 1) xs) ≡ kept_of (take k xs)
kept_down xs zero some less is = absurd (omega (arith, some))
kept_down xs (suc k) some less is =
    let e : suc k - 1 ≡ k = omega arith in let last : get_or xs k 0 ≡ 0 = subst (λ (j : ℕ). get_or xs j 0 ≡ 0) e is in
    rw e (sym (rw (take-suc xs k 0, last) (kept_zero (take k xs))))
