-- The least starts of blocks, from one place to the next.
use Rattle.std.proofs.Common.{◌≡◌, ℕ, ◌+◌, ◌<◌, ◌≤◌, List, length, set, slice_index, arith, sym, subst, inl, inr}
use Rattle.std.proofs.lemmas.Bool.{cases_eq, cases_lt}
use Rattle.std.proofs.lemmas.List.{get_or-set_other, get_or-set_same}
use Rattle.lb_snapshot.specs.Measured.{load}
use Rattle.lb_certificates.proofs.Chains.{load_wider}
use Rattle.chain_partition.proofs.Ranges.{load_nothing}
use Rattle.chain_refinement.specs.Walks.{IsLeastStart}

-- a range that may be too heavy, and no wider one is within the limit
pub record IsSlidTo (loads : List ℕ) (end limit start : ℕ) : Type 0 where
  pub inside : start ≤ end
  pub wider : (other : ℕ) → other ≤ end → load loads other end ≤ limit → start ≤ other

pub element_in : (loads : List ℕ) (element limit start : ℕ) → IsLeastStart loads element limit start → IsSlidTo loads (element + 1) limit start
element_in loads element limit start h =
    record {
      inside = omega (arith, h.inside);
      wider = λ other before light. elim (cases_lt element other) [
        | inl behind ↦ omega (arith, behind, h.inside)
        | inr inner ↦ h.least other inner (omega (arith, light, load_wider loads other element other (element + 1) (omega arith) inner (omega arith)))
      ];
    }

-- a range that is too heavy has an element
pub some_inside : (loads : List ℕ) (end limit start : ℕ) → IsSlidTo loads end limit start → limit < load loads start end → start < end
some_inside loads end limit start h heavy =
    elim (cases_lt start end) [
      | inl before ↦ before
      | inr met ↦
          let same : start ≡ end = omega (arith, met, h.inside) in
          absurd (omega (arith, heavy, subst (λ n. load loads start n ≡ 0) same (load_nothing loads start)))
    ]

pub element_out : (loads : List ℕ) (end limit start : ℕ) → IsSlidTo loads end limit start → limit < load loads start end → IsSlidTo loads end limit (start + 1)
element_out loads end limit start h heavy =
    record {
      inside = omega (arith, some_inside loads end limit start h heavy);
      wider = λ other before light. elim (cases_lt start other) [
        | inl behind ↦ omega arith
        | inr met ↦
            let same : start ≡ other = omega (arith, met, h.wider other before light) in
            absurd (omega (arith, light, subst (λ n. limit < load loads n end) same heavy))
      ];
    }

pub stops : (loads : List ℕ) (end limit start : ℕ) → IsSlidTo loads end limit start → load loads start end ≤ limit → IsLeastStart loads end limit start
stops loads end limit start h light =
    record { inside = h.inside; light = light; least = h.wider }

-- the least start of an empty block
pub starts_at_0 : (loads : List ℕ) (limit : ℕ) → IsLeastStart loads 0 limit 0
starts_at_0 loads limit =
    record { inside = omega arith; light = omega (arith, load_nothing loads 0); least = λ other before light. omega arith }

-- the starts written so far
abbrev pub AreStartsTo : List ℕ → ℕ → ℕ → List ℕ → Type 0
AreStartsTo loads limit end starts = (x : ℕ) → x ≤ end → IsLeastStart loads x limit (slice_index starts x)

pub starts_none : (loads : List ℕ) (limit : ℕ) (starts : List ℕ) → slice_index starts 0 ≡ 0 → AreStartsTo loads limit 0 starts
starts_none loads limit starts first x inside =
    let same : 0 ≡ x = omega arith in
    subst (λ n. IsLeastStart loads n limit (slice_index starts n)) same (subst (λ s. IsLeastStart loads 0 limit s) (sym first) (starts_at_0 loads limit))

pub starts_more : (loads : List ℕ) (limit end start : ℕ) (starts : List ℕ) → AreStartsTo loads limit end starts
    → IsLeastStart loads (end + 1) limit start → end + 1 < length starts → AreStartsTo loads limit (end + 1) (set starts (end + 1) start)
starts_more loads limit end start starts before here room x inside =
    elim (cases_eq x (end + 1)) [
      | inl met ↦
          let read = get_or-set_same starts (end + 1) start 0 room in
          subst (λ n. IsLeastStart loads n limit (slice_index (set starts (end + 1) start) n)) (sym met) (subst (λ s. IsLeastStart loads (end + 1) limit s) (sym read) here)
      | inr apart ↦
          let read = get_or-set_other starts (end + 1) x start 0 apart in
          subst (λ s. IsLeastStart loads x limit s) (sym read) (before x (omega (arith, apart)))
    ]
