-- Cheapest namings use only pairs of a block and a PE whose prices add up to their cost: complementary slackness.
-- Source: R. K. Ahuja, T. L. Magnanti and J. B. Orlin, "Network Flows", Prentice Hall 1993, section 9.4.
use Rattle.std.proofs.Common.{◌≡◌, ◌⊎◌, ◌↔◌, ℕ, zero, suc, ◌+◌, ◌<◌, ◌≤◌, inl, inr, List, length, slice_index, arith, ap, sym, ◌∙◌, subst}
use Rattle.std.proofs.lemmas.Bool.{cases_eq}
use Rattle.std.proofs.lemmas.Grind.{same_number_lists}
use Rattle.lb_certificates.specs.Naming.{total, IsNaming, naming_cost, ComesBefore, IsFirstCheapest}
use Rattle.lb_certificates.proofs.Totals.{total_same, total_add, total_le, total_named}
use Rattle.block_assignment.specs.Least.{may_have, IsAllowed, IsLeastAt}
use Rattle.block_assignment.specs.Search.{IsTight}
use Rattle.block_assignment.proofs.Namings.{total_less}

-- what a naming costs, with all discounts
cost_and_discounts : (blocks : ℕ) (cost : ℕ → ℕ → ℕ) (discount names : List ℕ) → IsNaming blocks names
    → total blocks (λ b. cost b (slice_index names b) + slice_index discount (slice_index names b)) ≡ naming_cost blocks cost names + total
    blocks (λ p. slice_index discount p)
cost_and_discounts blocks cost discount names naming =
    omega (
      arith,
      total_add blocks (λ b. cost b (slice_index names b)) (λ b. slice_index discount (slice_index names b)),
      total_named blocks (λ b. slice_index names b) (λ p. slice_index discount p) naming.below naming.apart,
    )

-- the sum of the prices is what the naming costs, with all discounts
pub prices_in_all : (blocks : ℕ) (cost : ℕ → ℕ → ℕ) (price discount names : List ℕ) → IsTight blocks cost price discount names
    → total blocks (λ b. slice_index price b) ≡ naming_cost blocks cost names + total blocks (λ p. slice_index discount p)
prices_in_all blocks cost price discount names h =
    total_same blocks (λ b. slice_index price b) (λ b. cost b (slice_index names b) + slice_index discount (slice_index names b)) h.tight
    ∙ cost_and_discounts blocks cost discount names h.naming

tight_cheapest : (blocks : ℕ) (cost : ℕ → ℕ → ℕ) (price discount names others : List ℕ) → IsTight blocks cost price discount names
    → IsNaming blocks others → naming_cost blocks cost names ≤ naming_cost blocks cost others
tight_cheapest blocks cost price discount names others h naming =
    omega (
      arith,
      prices_in_all blocks cost price discount names h,
      total_le blocks (λ b. slice_index price b) (λ b. cost b (slice_index others b) + slice_index discount (slice_index others b))
          (λ b inside. h.low b (slice_index others b) inside (naming.below b inside)),
      cost_and_discounts blocks cost discount others naming,
    )

-- a naming that costs no more uses only such pairs
tight_only : (blocks : ℕ) (cost : ℕ → ℕ → ℕ) (price discount names others : List ℕ) → IsTight blocks cost price discount names
    → IsNaming blocks others → naming_cost blocks cost others ≤ naming_cost blocks cost names → (b : ℕ) → b < blocks
    → slice_index price b ≡ cost b (slice_index others b) + slice_index discount (slice_index others b)
tight_only blocks cost price discount names others h naming cheap b inside =
    let term : ℕ → ℕ = λ k. cost k (slice_index others k) + slice_index discount (slice_index others k) in
    let low : (k : ℕ) → k < blocks → slice_index price k ≤ term k = λ k block. h.low k (slice_index others k) block (naming.below k block) in
    elim (cases_eq (slice_index price b) (term b)) [
      | inl same ↦ same
      | inr other ↦ absurd (omega (
        arith,
        cheap,
        prices_in_all blocks cost price discount names h,
        total_less blocks (λ k. slice_index price k) term b low inside (omega (arith, low b inside, other)),
        cost_and_discounts blocks cost discount others naming,
      ))
    ]

-- the sets of takers have just such pairs
abbrev pub IsExact : ℕ → (ℕ → ℕ → ℕ) → List ℕ → List ℕ → List (List ℕ) → Type 0
IsExact blocks cost price discount takers =
    (b p : ℕ) → b < blocks → p < blocks → (may_have takers b p ≡ 1) ↔ (slice_index price b ≡ cost b p + slice_index discount p)

pub allowed_if_tight : (blocks : ℕ) (cost : ℕ → ℕ → ℕ) (price discount names : List ℕ) (takers : List (List ℕ)) → length takers ≡ blocks
    → IsExact blocks cost price discount takers → IsTight blocks cost price discount names → IsAllowed takers names
allowed_if_tight blocks cost price discount names takers counted exact h b inside =
    let block : b < blocks = omega (arith, inside, counted) in
    (exact b (slice_index names b) block (h.naming.below b block)).1 (h.tight b block)

pub tight_if_allowed : (blocks : ℕ) (cost : ℕ → ℕ → ℕ) (price discount names new : List ℕ) (takers : List (List ℕ)) → length takers ≡ blocks
    → IsExact blocks cost price discount takers → IsTight blocks cost price discount names → IsNaming blocks new → IsAllowed takers new
    → IsTight blocks cost price discount new
tight_if_allowed blocks cost price discount names new takers counted exact h naming allowed =
    record {
      naming = naming;
      low = h.low;
      tight = λ b block. (exact b (slice_index new b) block (naming.below b block)).0 (allowed b (omega (arith, block, counted)));
    }

-- two namings are the same before block n, or this one comes before the other
same_or_before : (takers : List (List ℕ)) (names others : List ℕ) (n : ℕ) → n ≤ length takers
    → ((b : ℕ) → b < length takers → IsLeastAt takers names b) → IsNaming (length takers) others → IsAllowed takers others
    → ((b : ℕ) → b < n → slice_index names b ≡ slice_index others b) ⊎ ComesBefore (length takers) names others
same_or_before takers names others zero few least naming allowed = inl (λ b inside. absurd (omega arith))
same_or_before takers names others (suc n) few least naming allowed =
    elim (same_or_before takers names others n (omega arith) least naming allowed) [
      | inr before ↦ inr before
      | inl same ↦
          let at_most : slice_index names n ≤ slice_index others n = least n (omega arith) others naming allowed (λ b inside. sym (same b inside)) in
          elim (cases_eq (slice_index names n) (slice_index others n)) [
            | inl equal ↦ inl (λ b inside. elim (cases_eq b n) [
              | inl last ↦ ap (λ k. slice_index names k) last ∙ equal ∙ ap (λ k. slice_index others k) (sym last)
              | inr earlier ↦ same b (omega (arith, inside, earlier))
            ])
            | inr differ ↦ inr (record { block = n; inside = omega arith; same = same; less = omega (arith, at_most, differ) })
          ]
    ]

-- with the least PE for each block in turn a naming comes first of all cheapest ones
pub first_from_least : (blocks : ℕ) (cost : ℕ → ℕ → ℕ) (price discount names : List ℕ) (takers : List (List ℕ)) → length takers ≡ blocks
    → IsExact blocks cost price discount takers → IsTight blocks cost price discount names
    → ((b : ℕ) → b < length takers → IsLeastAt takers names b) → IsFirstCheapest blocks (naming_cost blocks cost) names
first_from_least blocks cost price discount names takers counted exact h least =
    record {
      naming = h.naming;
      cheapest = λ others naming. tight_cheapest blocks cost price discount names others h naming;
      first = λ others naming cheap.
          let tight : IsTight blocks cost price discount others = record
          { naming = naming; low = h.low; tight = tight_only blocks cost price discount names others h naming cheap } in
          let allowed : IsAllowed takers others = allowed_if_tight blocks cost price discount others takers counted exact tight in
          let there : IsNaming (length takers) others = subst (λ n. IsNaming n others) (sym counted) naming in
          elim (same_or_before takers names others (length takers) (omega arith) least there allowed) [
            | inl same ↦ inl (same_number_lists names others (h.naming.counted ∙ sym naming.counted) (λ b inside. same b (omega (arith, inside, h.naming.counted, counted))))
            | inr before ↦ inr (subst (λ n. ComesBefore n names others) counted before)
          ];
    }
