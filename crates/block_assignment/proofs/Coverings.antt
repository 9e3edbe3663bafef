-- Finite lists of numbers that reach others: the pigeonhole principle, and a sum with one term changed.
use Rattle.std.proofs.Common.{◌≡◌, ◌≢◌, ℕ, suc, zero, ◌+◌, ◌-◌, ◌<◌, ◌≤◌, ◌==◌, cond, ◌⊎◌, inl, inr, List, slice_index, arith, ap, sym, ◌∙◌, refl}
use Rattle.std.proofs.lemmas.Bool.{cases_eq, cond-true, cond-false, eq-eqb, ne_eqb}
use Rattle.lb_certificates.specs.Naming.{total}
use Rattle.lb_certificates.proofs.Totals.{total_same}
use Rattle.block_assignment.specs.Search.{IsFree}

-- a PE is held by a block, or free
pub held_or_free : (n : ℕ) (names : List ℕ) (p : ℕ) → ((b : ℕ) × (b < n) × (slice_index names b ≡ p)) ⊎ IsFree n names p
held_or_free zero names p = inr (λ b inside. absurd (omega arith))
held_or_free (suc n) names p =
    elim (cases_eq (slice_index names n) p) [
      | inl here ↦ inl (n, omega arith, here)
      | inr apart ↦ elim (held_or_free n names p) [
        | inl held ↦ inl (held.0, omega (arith, held.1), held.2)
        | inr free ↦ inr (λ b inside. elim (cases_eq b n) [
          | inl last ↦ λ e. apart (ap (λ k. slice_index names k) (sym last) ∙ e)
          | inr before ↦ free b (omega arith)
        ])
      ]
    ]

-- a function with another value at one place
abbrev pub changed : (ℕ → ℕ) → ℕ → ℕ → ℕ → ℕ
changed f q x k = cond (k == q) x (f k)

pub changed_here : (f : ℕ → ℕ) (q x k : ℕ) → k ≡ q → changed f q x k ≡ x
changed_here f q x k e = cond-true (k == q) x (f k) (eq-eqb k q e)

pub changed_apart : (f : ℕ → ℕ) (q x k : ℕ) → k ≢ q → changed f q x k ≡ f k
changed_apart f q x k apart = cond-false (k == q) x (f k) (ne_eqb k q apart)

-- without the block that reaches the last number the others reach those before it
reached_before : (m n : ℕ) (f : ℕ → ℕ) (top : ℕ) → top < n → f top ≡ m → ((p : ℕ) → p < suc m → (b : ℕ) × (b < n) × (f b ≡ p)) → (p : ℕ)
    → p < m → (b : ℕ) × (b < n - 1) × (changed f top (f (n - 1)) b ≡ p)
reached_before m n f top below e h p inside =
    let at = h p (omega arith) in
    let apart : at.0 ≢ top = λ same. absurd (omega (arith, inside, at.2, e, ap f same)) in
    elim (cases_eq at.0 (n - 1)) [
      | inl last ↦ (top, omega (arith, last, apart, below, at.1), changed_here f top (f (n - 1)) top refl ∙ ap f (sym last) ∙ at.2)
      | inr before ↦ (at.0, omega (arith, before, at.1), changed_apart f top (f (n - 1)) at.0 apart ∙ at.2)
    ]

-- numbers that reach each number below a bound are no fewer than it
pub covers : (m n : ℕ) (f : ℕ → ℕ) → ((p : ℕ) → p < m → (b : ℕ) × (b < n) × (f b ≡ p)) → m ≤ n
covers zero n f h = omega arith
covers (suc m) n f h =
    let top = h m (omega arith) in
    omega (arith, top.1, covers m (n - 1) (changed f top.0 (f (n - 1))) (reached_before m n f top.0 top.1 top.2 h))

-- fewer blocks than PEs leave a PE free
pub some_free : (n m : ℕ) (names : List ℕ) → n < m → (p : ℕ) × (p < m) × IsFree n names p
some_free n m names fewer =
    elim (free_below n m names) [
      | inl found ↦ found
      | inr held ↦ absurd (omega (arith, fewer, covers m n (λ b. slice_index names b) held))
    ]
  where
    free_below : (n m : ℕ) (names : List ℕ) → ((p : ℕ) × (p < m) × IsFree n names p) ⊎ ((p : ℕ) → p < m → (b : ℕ) × (b < n) × (slice_index names b ≡ p))
    free_below n zero names = inr (λ p inside. absurd (omega arith))
    free_below n (suc m) names =
        elim (held_or_free n names m) [
          | inr free ↦ inl (m, omega arith, free)
          | inl held ↦ elim (free_below n m names) [
            | inl found ↦ inl (found.0, omega (arith, found.1), found.2)
            | inr all ↦ inr (λ p inside. elim (cases_eq p m) [
              | inl last ↦ (held.0, held.1, held.2 ∙ sym last)
              | inr before ↦ all p (omega arith)
            ])
          ]
        ]

-- one term is another
pub total_changed : (n : ℕ) (f : ℕ → ℕ) (q x : ℕ) → q < n → total n (changed f q x) + f q ≡ total n f + x
total_changed zero f q x inside = absurd (omega arith)
total_changed (suc n) f q x inside =
    elim (cases_eq q n) [
      | inl last ↦
          let before : total n (changed f q x) ≡ total n f = total_same n (changed f q x) f (λ k below. changed_apart f q x k (omega arith)) in
          omega (arith, before, changed_here f q x n (sym last), ap f last)
      | inr before ↦
          omega (arith, total_changed n f q x (omega arith), changed_apart f q x n (λ e. before (sym e)))
    ]
