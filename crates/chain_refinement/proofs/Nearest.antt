-- There is one list of cuts nearest the present ones.
use Rattle.std.proofs.Common.{◌≡◌, ℕ, zero, suc, ◌+◌, ◌<◌, ◌≤◌, List, length, slice_index, arith, inl, inr, sym, ◌∙◌, subst}
use Rattle.std.proofs.lemmas.Bool.{cases_lt}
use Rattle.std.proofs.lemmas.List.{ext_get_or}
use Rattle.chain_refinement.specs.Refinement.{AreNearest, LiesBetween}

-- two places that are each between a third and the other are the same
same_place : (present one other : ℕ) → LiesBetween present one other → LiesBetween present other one → one ≡ other
same_place present one other (inl a) (inl b) = omega (arith, a.0, a.1, b.0, b.1)
same_place present one other (inl a) (inr b) = omega (arith, a.0, a.1, b.0, b.1)
same_place present one other (inr a) (inl b) = omega (arith, a.0, a.1, b.0, b.1)
same_place present one other (inr a) (inr b) = omega (arith, a.0, a.1, b.0, b.1)

-- two such lists agree in the last cut and in the `left` cuts before it
agree_from : (loads : List ℕ) (sizes : List (ℕ × ℕ)) (names present : List ℕ) (limit : ℕ) (cuts others : List ℕ) (left : ℕ)
    → AreNearest loads sizes names present limit cuts → AreNearest loads sizes names present limit others → (k : ℕ)
    → length names ≤ k + left → k ≤ length names → slice_index others k ≡ slice_index cuts k
agree_from loads sizes names present limit cuts others zero one other k from inside =
    let last : length names ≡ k = omega arith in
    subst (λ n. slice_index others n ≡ slice_index cuts n) last (other.fewest.within.divides.ends ∙ sym one.fewest.within.divides.ends)
agree_from loads sizes names present limit cuts others (suc left) one other k from inside =
    let before : (j : ℕ) → length names ≤ j + left → j ≤ length names
    → slice_index others j ≡ slice_index cuts j = agree_from loads sizes names present limit cuts others left one other in
    elim (cases_lt k (length names)) [
      | inr last ↦ before k (omega arith) inside
      | inl inner ↦
          let behind : (j : ℕ) → k < j → j ≤ length names → slice_index others j ≡ slice_index cuts j = λ j after within. before j (omega arith) within in
          sym (same_place (slice_index present k) (slice_index cuts k) (slice_index others k)
          (one.nearest others k other.fewest inner behind) (other.nearest cuts k one.fewest inner (λ j after within. sym (behind j after within))))
    ]

pub one_is_nearest : (loads : List ℕ) (sizes : List (ℕ × ℕ)) (names present : List ℕ) (limit : ℕ) (cuts others : List ℕ)
    → AreNearest loads sizes names present limit cuts → AreNearest loads sizes names present limit others → cuts ≡ others
one_is_nearest loads sizes names present limit cuts others one other =
    ext_get_or 0 cuts others (one.fewest.within.divides.counted ∙ sym other.fewest.within.divides.counted)
    (λ i inside. sym (agree_from loads sizes names present limit cuts others (length names) one other i (omega arith)
    (omega (arith, one.fewest.within.divides.counted))))
