-- The least PE that a block can have.
use Rattle.std.proofs.Common.{◌≡◌, ◌≢◌, ◌⊎◌, ℕ, ◌+◌, ◌-◌, ◌/◌, ◌%◌, ◌<◌, ◌≤◌, inl, inr, List, length, slice_index, arith, ap, sym, ◌∙◌, subst}
use Rattle.std.proofs.lemmas.Bool.{cases_eq, cases_lt}
use Rattle.std.proofs.lemmas.Nat.Bits.{bit_at-lt}
use Rattle.lb_certificates.specs.Naming.{total, IsNaming}
use Rattle.lb_certificates.proofs.Totals.{total_named}
use Rattle.block_assignment.specs.Least.{member, may_have, IsAllowed, IsClosed, IsLeastAt, IsFound}
use Rattle.block_assignment.proofs.Namings.{same_block, place, place_of, total_less}

-- a set has a block or not
pub member_or_not : (set : List ℕ) (b : ℕ) → (member set b ≡ 0) ⊎ (member set b ≡ 1)
member_or_not set b =
    elim (cases_eq (member set b) 0) [
      | inl none ↦ inl none
      | inr some ↦ inr (omega (arith, some, bit_at-lt (slice_index set (b / 64)) (b % 64)))
    ]

-- two namings that agree before b, and the block of the one that holds a PE of the other
module _ (takers : List (List ℕ)) (names others : List ℕ) (b : ℕ) (naming : IsNaming (length takers) names)
    (other : IsNaming (length takers) others) (same : (k : ℕ) → k < b → slice_index others k ≡ slice_index names k) (inside : b < length takers) where
  abbrev holder : ℕ → ℕ
  holder k = place (length takers) names (slice_index others k)

  holder_in : (k : ℕ) → k < length takers → holder k < length takers
  holder_in k block = (place_of (length takers) names (slice_index others k) naming (other.below k block)).0

  holds : (k : ℕ) → k < length takers → slice_index names (holder k) ≡ slice_index others k
  holds k block = (place_of (length takers) names (slice_index others k) naming (other.below k block)).1

  apart : (i k : ℕ) → i < k → k < length takers → holder i ≢ holder k
  apart i k before block e = other.apart i k before block (sym (holds i (omega arith)) ∙ ap (λ m. slice_index names m) e ∙ holds k block)

  before_kept : (k : ℕ) → k < b → holder k ≡ k
  before_kept k before = same_block (length takers) names (holder k) k naming (holder_in k (omega arith)) (omega arith) (holds k (omega arith) ∙ same k before)

  not_before : (k : ℕ) → b ≤ k → k < length takers → b ≤ holder k
  not_before k past block =
      elim (cases_lt (holder k) b) [
        | inl before ↦
            let e : k ≡ holder k = same_block (length takers) others k (holder k) other block (holder_in k block) (sym (holds k block) ∙ sym (same (holder k) before)) in
            omega (arith, past, e, before)
        | inr at ↦ at
      ]

  -- no allowed naming gives b the PE of a block that was not reached
  pub held_by_reached : (left : List ℕ) → IsAllowed takers others → member left b ≡ 0 → IsClosed takers names b left → member left (holder b) ≡ 0
  held_by_reached left allowed taken closed =
      elim (member_or_not left (holder b)) [
        | inl reached ↦ reached
        | inr unreached ↦
            let fewer : total (length takers) (λ k. 1 - member left (holder k)) < total (length takers) (λ k. 1 - member left k) =
            total_less (length takers) (λ k. 1 - member left (holder k)) (λ k. 1 - member left k) b no_more inside (omega (arith, unreached, taken)) in
            absurd (omega (arith, fewer, total_named (length takers) holder (λ k. 1 - member left k) holder_in apart))
      ]
    where
      no_more : (k : ℕ) → k < length takers → 1 - member left (holder k) ≤ 1 - member left k
      no_more k block =
          elim (cases_lt k b) [
            | inl before ↦ omega (arith, ap (λ m. member left m) (before_kept k before))
            | inr at ↦ elim (member_or_not left (holder k)) [
              | inr unreached ↦ omega (arith, unreached)
              | inl reached ↦ elim (cases_eq k b) [
                | inl here ↦ omega (arith, ap (λ m. member left m) here, taken)
                | inr after ↦
                    let has : may_have takers k (slice_index names (holder k)) ≡ 1 = ap (λ p. may_have takers k p) (holds k block) ∙ allowed k block in
                    let gone : member left k ≡ 0 = closed (holder k) k
                    (record { from = not_before k at block; inside = holder_in k block; taken = reached }) (omega (arith, at, after)) block has in
                    omega (arith, gone)
              ]
            ]
          ]

-- the chosen block has the least PE that block b can have
pub least_chosen : (takers : List (List ℕ)) (names left : List ℕ) (b chosen : ℕ) → IsNaming (length takers) names → b < length takers
    → member left b ≡ 0 → IsClosed takers names b left
    → ((j : ℕ) → IsFound (length takers) b left j → may_have takers b (slice_index names j) ≡ 1
    → slice_index names chosen ≤ slice_index names j) → (others : List ℕ) → IsNaming (length takers) others → IsAllowed takers others
    → ((k : ℕ) → k < b → slice_index others k ≡ slice_index names k) → slice_index names chosen ≤ slice_index others b
least_chosen takers names left b chosen naming inside taken closed least others other allowed same =
    let j : ℕ = holder takers names others b naming other same inside b in
    let here : slice_index names j ≡ slice_index others b = holds takers names others b naming other same inside b inside in
    let reached : IsFound (length takers) b left j = record {
      from = not_before takers names others b naming other same inside b (omega arith) inside;
      inside = holder_in takers names others b naming other same inside b inside;
      taken = held_by_reached takers names others b naming other same inside left allowed taken closed;
    } in
    omega (arith, here, least j reached (ap (λ p. may_have takers b p) here ∙ allowed b inside))

-- the block with the least PE, of one more block
pub least_more : (takers : List (List ℕ)) (names left : List ℕ) (b j chosen next : ℕ)
    → ((k : ℕ) → k < j → IsFound (length takers) b left k → may_have takers b (slice_index names k) ≡ 1
    → slice_index names chosen ≤ slice_index names k) → slice_index names next ≤ slice_index names chosen
    → (IsFound (length takers) b left j → may_have takers b (slice_index names j) ≡ 1 → slice_index names next ≤ slice_index names j)
    → (k : ℕ) → k < j + 1 → IsFound (length takers) b left k → may_have takers b (slice_index names k) ≡ 1 → slice_index names next ≤ slice_index names k
least_more takers names left b j chosen next before less here k past found has =
    elim (cases_eq k j) [
      | inl e ↦ subst (λ m. slice_index names next ≤ slice_index names m) (sym e)
          (here (subst (λ m. IsFound (length takers) b left m) e found) (subst (λ m. may_have takers b (slice_index names m) ≡ 1) e has))
      | inr other ↦ omega (arith, less, before k (omega (arith, past, other)) found has)
    ]

-- a block that may have no lesser PE of a later block has the least
pub least_kept : (takers : List (List ℕ)) (names : List ℕ) (b : ℕ) → IsNaming (length takers) names → b < length takers
    → ((j : ℕ) → b < j → j < length takers → may_have takers b (slice_index names j) ≡ 1 → slice_index names b ≤ slice_index names j) → IsLeastAt takers names b
least_kept takers names b naming inside none others other allowed same =
    let j : ℕ = holder takers names others b naming other same inside b in
    let here : slice_index names j ≡ slice_index others b = holds takers names others b naming other same inside b inside in
    let from : b ≤ j = not_before takers names others b naming other same inside b (omega arith) inside in
    elim (cases_eq j b) [
      | inl at ↦ omega (arith, here, ap (λ m. slice_index names m) at)
      | inr after ↦ omega (
        arith,
        here,
        none j (omega (arith, from, after))
            (holder_in takers names others b naming other same inside b inside) (ap (λ p. may_have takers b p) here ∙ allowed b inside),
      )
    ]

-- blocks before b have the least PEs as before, where they have the same
pub least_before : (takers : List (List ℕ)) (names new : List ℕ) (b : ℕ) → ((k : ℕ) → k < b → slice_index new k ≡ slice_index names k)
    → ((k : ℕ) → k < b → IsLeastAt takers names k) → (k : ℕ) → k < b → IsLeastAt takers new k
least_before takers names new b same least k before others other allowed agree =
    omega (arith, same k before, least k before others other allowed (λ i earlier. agree i earlier ∙ same i (omega arith)))
