-- Namings: who holds a PE, and what an exchange leaves.
use Rattle.std.proofs.Common.{◌≡◌, ◌≢◌, ℕ, zero, suc, ◌+◌, ◌<◌, ◌≤◌, ◌==◌, cond, inl, inr, List, length, slice_index, arith, ap, sym, ◌∙◌, refl}
use Rattle.std.proofs.lemmas.Bool.{cases_eq, cases_lt, cond-true, cond-false, eq-eqb, ne_eqb}
use Rattle.std.proofs.lemmas.List.Edits.{Swapped}
use Rattle.lb_certificates.specs.Naming.{total, IsNaming}
use Rattle.lb_certificates.proofs.Totals.{total_same, total_le, total_named}
use Rattle.block_assignment.proofs.Coverings.{held_or_free, changed, changed_here, changed_apart, total_changed}

-- two blocks with one PE are one
pub same_block : (n : ℕ) (names : List ℕ) (a b : ℕ) → IsNaming n names → a < n → b < n → slice_index names a ≡ slice_index names b → a ≡ b
same_block n names a b naming first second same =
    elim (cases_eq a b) [
      | inl here ↦ here
      | inr other ↦ elim (cases_lt a b) [
        | inl before ↦ absurd (naming.apart a b before second same)
        | inr after ↦ absurd (naming.apart b a (omega arith) first (sym same))
      ]
    ]

-- each PE is held
pub held : (n : ℕ) (names : List ℕ) (p : ℕ) → IsNaming n names → p < n → (b : ℕ) × (b < n) × (slice_index names b ≡ p)
held n names p naming inside =
    elim (held_or_free n names p) [
      | inl found ↦ found
      | inr free ↦
          let one : ℕ → ℕ = changed (λ _. 0) p 1 in
          let left : total n (λ b. one (slice_index names b)) ≡ total n one = total_named n (λ b. slice_index names b) one naming.below naming.apart in
          let none : total n (λ b. one (slice_index names b)) ≡ total n (λ _. 0) = total_same n (λ b. one (slice_index names b)) (λ _. 0)
          (λ b block. changed_apart (λ _. 0) p 1 (slice_index names b) (free b block)) in
          absurd (omega (arith, left, none, total_changed n (λ _. 0) p 1 inside))
    ]

-- the block that holds a PE
abbrev pub place : ℕ → List ℕ → ℕ → ℕ
place zero names p = 0
place (suc n) names p = cond (slice_index names n == p) n (place n names p)

place_found : (n : ℕ) (names : List ℕ) (p b : ℕ) → b < n → slice_index names b ≡ p → (place n names p < n) × (slice_index names (place n names p) ≡ p)
place_found zero names p b inside here = absurd (omega arith)
place_found (suc n) names p b inside here =
    elim (cases_eq (slice_index names n) p) [
      | inl last ↦
          let e : place (suc n) names p ≡ n = cond-true (slice_index names n == p) n (place n names p) (eq-eqb (slice_index names n) p last) in
          (omega (arith, e), ap (λ k. slice_index names k) e ∙ last)
      | inr other ↦
          let e : place (suc n) names p ≡ place n names p = cond-false (slice_index names n == p) n (place n names p) (ne_eqb (slice_index names n) p other) in
          let apart : b ≢ n = λ same. other (ap (λ k. slice_index names k) (sym same) ∙ here) in
          let before = place_found n names p b (omega (arith, inside, apart)) here in
          (omega (arith, e, before.0), ap (λ k. slice_index names k) e ∙ before.1)
    ]

pub place_of : (n : ℕ) (names : List ℕ) (p : ℕ) → IsNaming n names → p < n → (place n names p < n) × (slice_index names (place n names p) ≡ p)
place_of n names p naming inside =
    let at = held n names p naming inside in
    place_found n names p at.0 at.1 at.2

-- a sum with no greater terms, one of them less
pub total_less : (n : ℕ) (f g : ℕ → ℕ) (q : ℕ) → ((k : ℕ) → k < n → f k ≤ g k) → q < n → f q < g q → total n f < total n g
total_less zero f g q below inside less = absurd (omega arith)
total_less (suc n) f g q below inside less =
    elim (cases_eq q n) [
      | inl last ↦ omega (arith, total_le n f g (λ k before. below k (omega arith)), less, ap f last, ap g last)
      | inr other ↦ omega (arith, total_less n f g q (λ k before. below k (omega arith)) (omega arith) less, below n (omega arith))
    ]

-- the sum without one term of 1
pub total_taken : (n : ℕ) (f g : ℕ → ℕ) (q : ℕ) → q < n → f q ≡ 1 → g q ≡ 0 → ((k : ℕ) → k ≢ q → g k ≡ f k) → total n g + 1 ≡ total n f
total_taken n f g q inside one none same =
    let other : total n g ≡ total n (changed f q 0) = total_same n g (changed f q 0) (λ k before. elim (cases_eq k q) [
      | inl here ↦ ap g here ∙ none ∙ sym (changed_here f q 0 k here)
      | inr away ↦ same k away ∙ sym (changed_apart f q 0 k away)
    ]) in
    omega (arith, other, total_changed n f q 0 inside, one)

-- two blocks exchange their PEs
pub exchanged : (n : ℕ) (names new : List ℕ) (i j : ℕ) → IsNaming n names → length new ≡ n → i < n → j < n
    → Swapped (λ k. slice_index names k) (λ k. slice_index new k) i j → IsNaming n new
exchanged n names new i j naming counted first second swapped =
    record {
      counted = counted;
      below = λ b inside. omega (arith, naming.below (source b) (source_in b inside), from_source b);
      apart = λ a b before inside same.
          let one : source a ≡ source b = same_block n names (source a) (source b) naming (source_in a (omega arith)) (source_in b inside)
          (sym (from_source a) ∙ same ∙ from_source b) in
          absurd (omega (arith, before, source_apart a b one));
    }
  where
    -- whose PE a block has now
    source : ℕ → ℕ
    source k = cond (k == i) j (cond (k == j) i k)

    source_first : (k : ℕ) → k ≡ i → source k ≡ j
    source_first k here = cond-true (k == i) j (cond (k == j) i k) (eq-eqb k i here)

    source_second : (k : ℕ) → k ≢ i → k ≡ j → source k ≡ i
    source_second k other here = cond-false (k == i) j (cond (k == j) i k) (ne_eqb k i other) ∙ cond-true (k == j) i k (eq-eqb k j here)

    source_other : (k : ℕ) → k ≢ i → k ≢ j → source k ≡ k
    source_other k one two = cond-false (k == i) j (cond (k == j) i k) (ne_eqb k i one) ∙ cond-false (k == j) i k (ne_eqb k j two)

    from_source : (k : ℕ) → slice_index new k ≡ slice_index names (source k)
    from_source k =
        elim (cases_eq k i) [
          | inl here ↦ ap (λ m. slice_index new m) here ∙ swapped.0 ∙ ap (λ m. slice_index names m) (sym (source_first k here))
          | inr one ↦ elim (cases_eq k j) [
            | inl here ↦ ap (λ m. slice_index new m) here ∙ swapped.1 ∙ ap (λ m. slice_index names m) (sym (source_second k one here))
            | inr two ↦ swapped.2 k one two ∙ ap (λ m. slice_index names m) (sym (source_other k one two))
          ]
        ]

    source_in : (k : ℕ) → k < n → source k < n
    source_in k inside =
        elim (cases_eq k i) [
          | inl here ↦ omega (arith, source_first k here, second)
          | inr one ↦ elim (cases_eq k j) [
            | inl here ↦ omega (arith, source_second k one here, first)
            | inr two ↦ omega (arith, source_other k one two, inside)
          ]
        ]

    source_back : (k : ℕ) → source (source k) ≡ k
    source_back k =
        elim (cases_eq k i) [
          | inl here ↦ elim (cases_eq j i) [
            | inl same ↦ ap source (source_first k here) ∙ source_first j same ∙ same ∙ sym here
            | inr apart ↦ ap source (source_first k here) ∙ source_second j apart refl ∙ sym here
          ]
          | inr one ↦ elim (cases_eq k j) [
            | inl here ↦ ap source (source_second k one here) ∙ source_first i refl ∙ sym here
            | inr two ↦ ap source (source_other k one two) ∙ source_other k one two
          ]
        ]

    source_apart : (a b : ℕ) → source a ≡ source b → a ≡ b
    source_apart a b same = sym (source_back a) ∙ ap source same ∙ source_back b
