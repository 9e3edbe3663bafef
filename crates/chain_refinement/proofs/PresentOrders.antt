-- What a present order of the PEs says of the elements.
use Rattle.std.proofs.Common.{◌≡◌, ◌≢◌, ℕ, zero, suc, ◌+◌, ◌<◌, ◌≤◌, inl, inr, List, length, slice_index, arith, ap, sym, ◌∙◌, add-one}
use Rattle.std.proofs.lemmas.Bool.{cases_lt, cases_eq}
use Rattle.lb_certificates.specs.Chain.{IsDivision}
use Rattle.lb_certificates.specs.Naming.{IsNaming}
use Rattle.chain_refinement.specs.Orders.{place_of}
use Rattle.chain_refinement.specs.NoOrders.{HasNoOrder}

-- an element is in a block
block_before : (cuts : List ℕ) (k i : ℕ) → slice_index cuts 0 ≡ 0 → i < slice_index cuts k → (b : ℕ) × (b < k) × (slice_index cuts b ≤ i) × (i < slice_index cuts (b + 1))
block_before cuts zero i starts inside = absurd (omega (arith, starts, inside))
block_before cuts (suc k) i starts inside =
    elim (cases_lt i (slice_index cuts k)) [
      | inl before ↦
          let found = block_before cuts k i starts before in
          (found.0, omega (arith, found.1), found.2, found.3)
      | inr here ↦ (k, omega arith, here, rw (add-one k) inside)
    ]

pub block_at : (n blocks : ℕ) (cuts : List ℕ) (i : ℕ) → IsDivision 0 n blocks cuts → i < n → (b : ℕ) × (b < blocks) × (slice_index cuts b ≤ i) × (i < slice_index cuts (b + 1))
block_at n blocks cuts i division inside =
    block_before cuts blocks i division.starts (omega (arith, division.ends, inside))

-- two blocks with the same PE are the same block
pub same_block : (n : ℕ) (names : List ℕ) (a b : ℕ) → IsNaming n names → a < n → b < n → slice_index names a ≡ slice_index names b → a ≡ b
same_block n names a b naming first second same =
    elim (cases_eq a b) [
      | inl here ↦ here
      | inr other ↦ elim (cases_lt a b) [
        | inl before ↦ absurd (naming.apart a b before second same)
        | inr after ↦ absurd (naming.apart b a (omega arith) first (sym same))
      ]
    ]

-- where an element is on none of this number of PEs, there is no order
pub no_order_past : (sizes : List (ℕ × ℕ)) (pes i : ℕ) → i < length sizes → pes ≤ place_of sizes i → HasNoOrder sizes pes
no_order_past sizes pes i inside past names present naming standing =
    let at = block_at (length sizes) (length names) present i standing.divides inside in
    absurd (omega (arith, past, standing.stands at.0 i at.1 at.2 at.3, naming.below at.0 (omega (arith, at.1, naming.counted))))

-- where an element is between two of another PE, there is no order
pub no_order_apart : (sizes : List (ℕ × ℕ)) (pes i j k : ℕ) → i ≤ j → j ≤ k → k < length sizes → place_of sizes i ≡ place_of sizes k
    → place_of sizes j ≢ place_of sizes k → HasNoOrder sizes pes
no_order_apart sizes pes i j k first second inside same other names present naming standing =
    let one = block_at (length sizes) (length names) present i standing.divides (omega arith) in
    let last = block_at (length sizes) (length names) present k standing.divides inside in
    let block : one.0 ≡ last.0 = same_block pes names one.0 last.0 naming (omega (arith, one.1, naming.counted))
    (omega (arith, last.1, naming.counted)) (sym (standing.stands one.0 i one.1 one.2 one.3) ∙ same ∙ standing.stands last.0 k last.1 last.2 last.3) in
    let begins : slice_index present one.0 ≡ slice_index present last.0 = ap (λ b. slice_index present b) block in
    absurd (other (standing.stands last.0 j last.1 (omega (arith, begins, one.2)) (omega (arith, last.3)) ∙ sym (standing.stands last.0 k last.1 last.2 last.3)))
