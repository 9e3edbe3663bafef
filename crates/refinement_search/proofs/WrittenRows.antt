-- Rows, written from their last place to their first.
use Rattle.std.proofs.Common.{◌≡◌, ◌≢◌, ℕ, ◌+◌, ◌-◌, ◌<◌, ◌≤◌, min, max, List, length, set, slice_index, slice_range, sum_by, arith, refl, ap, sym, ◌∙◌, subst, inl, inr}
use Rattle.std.proofs.lemmas.Bool.{cases_eq, cases_lt}
use Rattle.std.proofs.lemmas.List.{get_or-set_other, get_or-set_same, length-set}
use Rattle.std.proofs.Math.Seq.{take-length}
use Rattle.lb_certificates.proofs.Totals.{sum_after}
use Rattle.chain_refinement.specs.Orders.{ArePartsApart}
use Rattle.chain_refinement.specs.Refinement.{held, held_before, held_bytes, held_from}
use Rattle.chain_refinement.proofs.CutCosts.{held_whole}
use Rattle.refinement_search.specs.Rows.{IsWrittenFrom, sum_at}
use Rattle.chain_refinement.proofs.Orders.{none_between}

-- the last place
pub written_first : (far : ℕ) (sum : ℕ → ℕ) (row : List ℕ) (value : ℕ) → far < length row → value ≡ sum far → IsWrittenFrom far sum row (set row far value) far
written_first far sum row value inside is =
    let here : slice_index (set row far value) far ≡ value = get_or-set_same row far value 0 inside in
    record {
      counted = length-set row far value;
      same = λ z before. get_or-set_other row far z value 0 (omega arith);
      behind = λ z after. get_or-set_other row far z value 0 (omega arith);
      low = λ z from to.
          let met : far ≡ z = omega arith in
          subst (λ n. slice_index (set row far value) n ≤ sum n) met (omega (arith, here, is));
      rises = λ y z from onward to.
          let one : far ≡ y = omega arith in
          let other : far ≡ z = omega arith in
          subst (λ n. slice_index (set row far value) n ≤ slice_index (set row far value) z) one
          (subst (λ n. slice_index (set row far value) far ≤ slice_index (set row far value) n) other (omega arith));
      reached = λ z from to.
          let met : far ≡ z = omega arith in
          (far, omega arith, omega arith, subst (λ n. sum far ≤ slice_index (set row far value) n) met (omega (arith, here, is)));
    }

-- one place more
pub written_one : (far : ℕ) (sum : ℕ → ℕ) (old row : List ℕ) (x value : ℕ) → far < length old → IsWrittenFrom far sum old row x → 0 < x
    → x ≤ far → value ≡ min (slice_index row x) (sum (x - 1)) → IsWrittenFrom far sum old (set row (x - 1) value) (x - 1)
written_one far sum old row x value room h some inside is =
    let here : ℕ = x - 1 in
    let at_here : slice_index (set row here value) here ≡ value = get_or-set_same row here value 0 (omega (arith, h.counted)) in
    let elsewhere : (z : ℕ) → z ≢ here → slice_index (set row here value) z ≡ slice_index row z = λ z apart. get_or-set_other row here z value 0 apart in
    record {
      counted = length-set row here value ∙ h.counted;
      same = λ z before. elsewhere z (omega arith) ∙ h.same z (omega arith);
      behind = λ z after. elsewhere z (omega arith) ∙ h.behind z after;
      low = λ z from to. elim (cases_eq z here) [
        | inl met ↦ subst (λ n. slice_index (set row here value) n ≤ sum n) (sym met) (omega (arith, at_here, is))
        | inr apart ↦ omega (arith, elsewhere z apart, h.low z (omega (arith, apart)) to)
      ];
      rises = λ y z from onward to. elim (cases_eq z here) [
        | inl met ↦
            let same : y ≡ z = omega (arith, met) in
            subst (λ n. slice_index (set row here value) y ≤ slice_index (set row here value) n) same (omega arith)
        | inr apart ↦ elim (cases_eq y here) [
          | inl first ↦
              let rising : slice_index row x ≤ slice_index row z = h.rises x z (omega arith) (omega (arith, apart, from, onward)) to in
              subst (λ n. slice_index (set row here value) n ≤ slice_index (set row here value) z) (sym first) (omega (arith, at_here, is, elsewhere z apart, rising))
          | inr behind ↦ omega (arith, elsewhere z apart, elsewhere y behind, h.rises y z (omega (arith, behind)) onward to)
        ]
      ];
      reached = λ z from to. elim (cases_eq z here) [
        | inr apart ↦
            let there = h.reached z (omega (arith, apart)) to in
            (there.0, there.1, there.2, omega (arith, there.3, elsewhere z apart))
        | inl met ↦ elim (cases_lt (sum here) (slice_index row x)) [
          | inl lower ↦ (here, omega (arith, met), omega arith, subst (λ n. sum here ≤ slice_index (set row here value) n) (sym met) (omega (arith, at_here, is, lower)))
          | inr higher ↦
              let there = h.reached x (omega arith) inside in
              (there.0, omega (arith, there.1, met), there.2, subst (λ n. sum there.0 ≤ slice_index (set row here value) n) (sym met) (omega (arith, at_here, is, there.3, higher)))
        ]
      ];
    }

-- the sum of the place before, from what is still there of the old row
pub sum_read : (far : ℕ) (sizes : List (ℕ × ℕ)) (starts old row : List ℕ) (below from to x : ℕ) (sum : ℕ → ℕ)
    → IsWrittenFrom far sum old row x → 0 < x → slice_index starts (x - 1) ≤ x - 1 → below ≤ x - 1
    → slice_index row (max (slice_index starts (x - 1)) below) + (held_from sizes from (x - 1) + held_before sizes to (x - 1)) ≡ sum_at
    sizes starts old below from to (x - 1)
sum_read far sizes starts old row below from to x sum h some before low =
    ap (λ n. n + (held_from sizes from (x - 1) + held_before sizes to (x - 1))) (h.same (max (slice_index starts (x - 1)) below) (omega arith))

-- what the cut costs at the last place
pub cost_at_far : (sizes : List (ℕ × ℕ)) (from to present far : ℕ) → ArePartsApart sizes from to present → present ≤ far
    → far ≤ length sizes → held (slice_range sizes present far) to ≡ held_from sizes from far + held_before sizes to far
cost_at_far sizes from to present far apart onward within =
    let none : held_before sizes to 0 ≡ held_before sizes to present = none_between sizes to 0 present (omega arith) (omega arith)
    (λ i low high. apart.before i high (omega arith)) in
    let rest : held_before sizes from far ≡ held_before sizes from (length sizes) = none_between sizes from far (length sizes) within
    (omega arith) (λ i low high. apart.behind i (omega arith) high) in
    let all : held_before sizes from (length sizes) ≡ held sizes from = ap (sum_by (λ size. held_bytes size from)) (take-length sizes) in
    let nothing : held_before sizes to 0 ≡ 0 = refl in
    omega (
      arith,
      none,
      nothing,
      rest,
      all,
      held_whole sizes from far,
      sum_after (λ size. held_bytes size to) sizes present far onward,
    )
