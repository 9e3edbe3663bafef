-- PEs are passed on along a path back to a block.
use Rattle.std.proofs.Common.{◌≡◌, ◌≢◌, ◌⊎◌, ℕ, ◌<◌, ◌≤◌, ◌==◌, cond, inl, inr, List, length, slice_index, arith, ap, sym, ◌∙◌, refl}
use Rattle.std.proofs.lemmas.Bool.{cases_eq, cond-true, cond-false, eq-eqb, ne_eqb}
use Rattle.std.proofs.lemmas.List.Edits.{Swapped}
use Rattle.lb_certificates.specs.Naming.{total, IsNaming}
use Rattle.block_assignment.specs.Least.{may_have, IsAllowed, IsFound, IsTrail}
use Rattle.block_assignment.proofs.Namings.{same_block, exchanged, total_less}

-- The holder has the PE that block b had, and is to have the one of the block whose PE is taken next. All other blocks
-- have PEs that they may have, and those with lower ranks the PEs that they had.
pub record IsPassing (takers : List (List ℕ)) (old : List ℕ) (b chosen : ℕ) (left next : List ℕ) (trail : IsTrail takers old b left next)
    (names : List ℕ) (holder taken : ℕ) : Type 0 where
  pub naming : IsNaming (length takers) names
  pub holder_in : holder < length takers
  pub holds : slice_index names holder ≡ slice_index old b
  pub others : (k : ℕ) → k < length takers → k ≢ holder → may_have takers k (slice_index names k) ≡ 1
  pub wants : may_have takers holder (slice_index old taken) ≡ 1
  pub reached : IsFound (length takers) b left taken
  pub kept : (k : ℕ) → b < k → k < length takers → trail.rank k ≤ trail.rank taken → slice_index names k ≡ slice_index old k
  pub start : ((holder ≡ b) × (taken ≡ chosen)) ⊎ ((b < holder) × (trail.rank taken < trail.rank holder) × (slice_index names b ≡ slice_index old chosen))
  pub before : (k : ℕ) → k < b → slice_index names k ≡ slice_index old k

pub passing_starts : (takers : List (List ℕ)) (old : List ℕ) (b chosen : ℕ) (left next : List ℕ) (trail : IsTrail takers old b left next)
    → IsNaming (length takers) old → IsAllowed takers old → b < length takers → IsFound (length takers) b left chosen
    → may_have takers b (slice_index old chosen) ≡ 1 → IsPassing takers old b chosen left next trail old b chosen
passing_starts takers old b chosen left next trail naming allowed inside reached wants =
    record {
      naming = naming;
      holder_in = inside;
      holds = refl;
      others = λ k within _. allowed k within;
      wants = wants;
      reached = reached;
      kept = λ k _ _ _. refl;
      start = inl (refl, refl);
      before = λ k _. refl;
    }

-- 1 where two numbers are the same, and else 0
abbrev pub same : ℕ → ℕ → ℕ
same a b = cond (a == b) 1 0

same_here : (a b : ℕ) → a ≡ b → same a b ≡ 1
same_here a b e = cond-true (a == b) 1 0 (eq-eqb a b e)

same_apart : (a b : ℕ) → a ≢ b → same a b ≡ 0
same_apart a b apart = cond-false (a == b) 1 0 (ne_eqb a b apart)

module _ (takers : List (List ℕ)) (old : List ℕ) (b chosen : ℕ) (left next : List ℕ) (trail : IsTrail takers old b left next)
    (first : IsNaming (length takers) old) (names : List ℕ) (holder taken : ℕ)
    (passing : IsPassing takers old b chosen left next trail names holder taken) where
  module _ (more : taken ≢ b) (new : List ℕ) (counted : length new ≡ length takers) (swapped : Swapped (λ k. slice_index names k) (λ k. slice_index new k) holder taken) where
    after : b < taken
    after = omega (arith, passing.reached.from, more)

    had : slice_index names taken ≡ slice_index old taken
    had = passing.kept taken after passing.reached.inside (omega arith)

    apart : holder ≢ taken
    apart e =
        elim passing.start [
          | inl begin ↦ more (sym e ∙ begin.0)
          | inr on ↦ absurd (omega (arith, on.1, ap trail.rank e))
        ]

    not_before : b ≤ holder
    not_before = elim passing.start [ inl begin ↦ omega (arith, begin.0) | inr on ↦ omega (arith, on.0) ]

    pub passing_more : IsPassing takers old b chosen left next trail new taken (slice_index next taken)
    passing_more =
        record {
          naming = exchanged (length takers) names new holder taken passing.naming counted passing.holder_in passing.reached.inside swapped;
          holder_in = passing.reached.inside;
          holds = swapped.1 ∙ passing.holds;
          others = λ k inside other. elim (cases_eq k holder) [
            | inl here ↦ ap (λ m. may_have takers m (slice_index new m)) here ∙ ap (λ p. may_have takers holder p) (swapped.0 ∙ had) ∙ passing.wants
            | inr away ↦ ap (λ p. may_have takers k p) (swapped.2 k away other) ∙ passing.others k inside away
          ];
          wants = trail.allowed taken after passing.reached;
          reached = trail.reached taken after passing.reached;
          kept = λ k past inside low.
              let less : trail.rank k < trail.rank taken = omega (arith, low, trail.nearer taken after passing.reached) in
              let not_taken : k ≢ taken = λ e. absurd (omega (arith, less, ap trail.rank e)) in
              let not_holder : k ≢ holder = λ e. elim passing.start [
                | inl begin ↦ absurd (omega (arith, past, e, begin.0))
                | inr on ↦ absurd (omega (arith, less, on.1, ap trail.rank e))
              ] in
              swapped.2 k not_holder not_taken ∙ passing.kept k past inside (omega (arith, less));
          start = inr (after, trail.nearer taken after passing.reached, at_b);
          before = λ k early. swapped.2 k (λ e. absurd (omega (arith, early, e, not_before))) (λ e. absurd (omega (arith, early, e, after))) ∙ passing.before k early;
        }
      where
        at_b : slice_index new b ≡ slice_index old chosen
        at_b =
            elim passing.start [
              | inl begin ↦ ap (λ m. slice_index new m) (sym begin.0) ∙ swapped.0 ∙ had ∙ ap (λ m. slice_index old m) begin.1
              | inr on ↦ swapped.2 b (λ e. absurd (omega (arith, e, on.0))) (λ e. more (sym e)) ∙ on.2
            ]

    -- fewer blocks have the PEs that they had
    pub passing_less : total (length takers) (λ k. same (slice_index new k) (slice_index old k)) < total (length takers) (λ k. same (slice_index names k) (slice_index old k))
    passing_less =
        total_less (length takers) (λ k. same (slice_index new k) (slice_index old k)) (λ k. same (slice_index names k) (slice_index old k))
        taken no_more passing.reached.inside (omega (arith, gone taken, here))
      where
        here : same (slice_index names taken) (slice_index old taken) ≡ 1
        here = same_here (slice_index names taken) (slice_index old taken) had

        gone : (k : ℕ) → same (slice_index new taken) (slice_index old taken) ≡ 0
        gone k = same_apart (slice_index new taken) (slice_index old taken)
            (λ e. more (sym (same_block (length takers) old b taken first (omega (arith, after, passing.reached.inside))
            passing.reached.inside (sym passing.holds ∙ sym swapped.1 ∙ e))))

        no_more : (k : ℕ) → k < length takers → same (slice_index new k) (slice_index old k) ≤ same (slice_index names k) (slice_index old k)
        no_more k inside =
            elim (cases_eq k holder) [
              | inl at ↦ omega (
                arith,
                ap (λ m. same (slice_index new m) (slice_index old m)) at,
                same_apart (slice_index new holder) (slice_index old holder)
                    (λ e. apart (same_block (length takers) old holder taken first passing.holder_in passing.reached.inside (sym e ∙ swapped.0 ∙ had))),
              )
              | inr away ↦ elim (cases_eq k taken) [
                | inl at ↦ omega (arith, ap (λ m. same (slice_index new m) (slice_index old m)) at, gone taken)
                | inr other ↦ omega (arith, ap (λ p. same p (slice_index old k)) (swapped.2 k away other))
              ]
            ]

  -- the last holder may have the PE that b had
  pub passing_ends : taken ≡ b → IsAllowed takers names × (slice_index names b ≡ slice_index old chosen)
  passing_ends last = (
    λ k inside. elim (cases_eq k holder) [
      | inl here ↦ ap (λ m. may_have takers m (slice_index names m)) here
          ∙ ap (λ p. may_have takers holder p) (passing.holds ∙ ap (λ m. slice_index old m) (sym last)) ∙ passing.wants
      | inr other ↦ passing.others k inside other
    ],
    elim passing.start [
      | inl begin ↦ ap (λ m. slice_index names m) (sym begin.0) ∙ passing.holds ∙ ap (λ m. slice_index old m) (sym last ∙ begin.1)
      | inr on ↦ on.2
    ],
  )
