-- The letter numbers that PEs have posted: of each PE those below its count, once.
use Rattle.std.proofs.Common.{◌≡◌, ◌≢◌, ℕ, zero, suc, ◌+◌, ◌<◌, List, [], ◌∷◌, length, map, sum_by, arith, refl, ◌∙◌, ap, subst}
use Rattle.std.specs.Prelude.{slice_get, if◌then◌else◌}
use Rattle.std.specs.List.{flat_map, range_with_len}
use Rattle.std.proofs.lemmas.Bool.Decides.{nat_tests}
use Rattle.std.proofs.lemmas.List.Sums.{sum_by-cons, sum_by-append}
use Rattle.pe_state.specs.Pes.{PeView}
use Rattle.rts_core.specs.Accounts.{is_number}
use Rattle.rts_core.proofs.WorldSteps.{below, known}
use Rattle.run_account.specs.Gathering.{numbers_of}

abbrev pub number_in : ℕ × ℕ → ℕ × ℕ → ℕ
number_in id x = if is_number id x then 1 else 0

number_here : (q j a : ℕ) → number_in (q, j) (q, a) + below j a ≡ below j (a + 1)
number_here q j a = grind (arith, nat_tests)

number_there : (q j p a : ℕ) → q ≢ p → number_in (q, j) (p, a) ≡ 0
number_there q j p a ne = grind (arith, nat_tests)

own_range : (q j a n : ℕ) → sum_by (number_in (q, j)) (map (λ k. (q, k)) (range_with_len a n)) + below j a ≡ below j (a + n)
own_range q j a zero =
    let e : a + zero ≡ a = omega arith in
    let r : below j (a + zero) ≡ below j a = ap (below j) e in
    let z : sum_by (number_in (q, j)) [] ≡ 0 = refl in
    omega (arith, r, z)
own_range q j a (suc n) =
    let c : sum_by (number_in (q, j)) ((q, a) ∷ map (λ k. (q, k)) (range_with_len (a + 1) n)) ≡ number_in (q, j) (q, a) + sum_by
    (number_in (q, j)) (map (λ k. (q, k)) (range_with_len (a + 1) n)) = sum_by-cons (number_in (q, j)) (q, a)
    (map (λ k. (q, k)) (range_with_len (a + 1) n)) in
    let e : (a + 1) + n ≡ a + suc n = omega arith in
    let r : below j ((a + 1) + n) ≡ below j (a + suc n) = ap (below j) e in
    omega (arith, c, r, number_here q j a, own_range q j (a + 1) n)

other_range : (q j p a n : ℕ) → q ≢ p → sum_by (number_in (q, j)) (map (λ k. (p, k)) (range_with_len a n)) ≡ 0
other_range q j p a zero ne = refl
other_range q j p a (suc n) ne =
    let c : sum_by (number_in (q, j)) ((p, a) ∷ map (λ k. (p, k)) (range_with_len (a + 1) n)) ≡ number_in (q, j) (p, a) + sum_by
    (number_in (q, j)) (map (λ k. (p, k)) (range_with_len (a + 1) n)) = sum_by-cons (number_in (q, j)) (p, a)
    (map (λ k. (p, k)) (range_with_len (a + 1) n)) in
    omega (arith, c, number_there q j p a ne, other_range q j p (a + 1) n ne)

below_none : (j : ℕ) → below j 0 ≡ 0
below_none j = grind (arith, nat_tests)

module _ {C : Type 0} where
  abbrev pub InOrder : ℕ → List (PeView C) → Type 0
  InOrder a ends = map (λ pe. pe.me) ends ≡ range_with_len a (length ends)

  pub first_of : (a : ℕ) (pe : PeView C) (ends : List (PeView C)) → InOrder a (pe ∷ ends) → pe.me ≡ a
  first_of a pe ends is = cc

  pub rest_of : (a : ℕ) (pe : PeView C) (ends : List (PeView C)) → InOrder a (pe ∷ ends) → InOrder (a + 1) ends
  rest_of a pe ends is = cc

  one_more : (q j : ℕ) (pe : PeView C) (ends : List (PeView C))
      → sum_by (number_in (q, j)) (flat_map numbers_of (pe ∷ ends)) ≡ sum_by (number_in (q, j)) (numbers_of pe) + sum_by (number_in (q, j)) (flat_map numbers_of ends)
  one_more q j pe ends = sum_by-append (number_in (q, j)) (numbers_of pe) (flat_map numbers_of ends)

  numbers_before : (q j a : ℕ) (ends : List (PeView C)) → InOrder a ends → q < a → sum_by (number_in (q, j)) (flat_map numbers_of ends) ≡ 0
  numbers_before q j a [] is lt = refl
  numbers_before q j a (pe ∷ ends) is lt =
      let f = first_of a pe ends is in
      let z = other_range q j pe.me 0 pe.count (λ e. let k : a < a = subst (λ (v : ℕ). v < a) (e ∙ f) lt in omega (arith, k)) in
      omega (arith, one_more q j pe ends, z, numbers_before q j (a + 1) ends (rest_of a pe ends is) (omega (arith, lt)))

  -- of PE q, number j is posted once where it is below the count
  pub numbers_at : (q j a i : ℕ) (ends : List (PeView C)) → InOrder a ends → q ≡ a + i → sum_by (number_in (q, j)) (flat_map numbers_of ends) ≡ known j (slice_get ends i)
  numbers_at q j a i [] is at = refl
  numbers_at q j a zero (pe ∷ ends) is at =
      let f = first_of a pe ends is in
      let same : q ≡ pe.me = omega (arith, at, f) in
      let o : sum_by (number_in (q, j)) (map (λ k. (q, k)) (range_with_len 0 pe.count)) + below j 0 ≡ below j (0 + pe.count) = own_range q j 0 pe.count in
      let p : sum_by (number_in (q, j)) (numbers_of pe) + below j 0 ≡ below j (0 + pe.count) = subst
      (λ (v : ℕ). sum_by (number_in (q, j)) (map (λ k. (v, k)) (range_with_len 0 pe.count)) + below j 0 ≡ below j (0 + pe.count)) same o in
      let n : 0 + pe.count ≡ pe.count = omega arith in
      let m : below j (0 + pe.count) ≡ below j pe.count = ap (below j) n in
      omega (arith, one_more q j pe ends, p, m, below_none j, numbers_before q j (a + 1) ends (rest_of a pe ends is) (omega (arith, at)))
  numbers_at q j a (suc i) (pe ∷ ends) is at =
      let f = first_of a pe ends is in
      let z = other_range q j pe.me 0 pe.count (λ e. omega (arith, e, f, at)) in
      omega (arith, one_more q j pe ends, z, numbers_at q j (a + 1) i ends (rest_of a pe ends is) (omega (arith, at)))
