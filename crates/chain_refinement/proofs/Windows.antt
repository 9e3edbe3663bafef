-- Windows: the widest blocks within a limit, one for each place where a block may end.
use Rattle.std.proofs.Common.{◌≡◌, ℕ, ◌+◌, ◌-◌, ◌<◌, ◌≤◌, ◌^◌, List, length, get_or, arith, inl, inr, subst}
use Rattle.std.proofs.lemmas.Bool.{cases_lt}
use Rattle.std.proofs.lemmas.List.Sums.{sum_by_more, sum_by-take-le}
use Rattle.lb_snapshot.specs.Measured.{IsLoads, load}
use Rattle.lb_snapshot.proofs.LoadSums.{sum_small}
use Rattle.lb_certificates.proofs.Chains.{load_after, load_wider}
use Rattle.chain_refinement.specs.Walks.{IsWindow}

-- an empty range weighs nothing
pub empty_load : (loads : List ℕ) (x : ℕ) → load loads x x ≡ 0
empty_load loads x = omega (arith, load_after loads x x (omega arith))

-- a range with the element behind it
load_with_last : (loads : List ℕ) (start end d : ℕ) → start ≤ end → end < length loads → load loads start (end + 1) ≡ load loads start end + get_or loads end d
load_with_last loads start end d onward inside =
    omega (
      arith,
      load_after loads start end onward,
      load_after loads start (end + 1) (omega arith),
      sum_by_more (λ x. x) loads end d inside,
    )

-- a range without its first element
load_without_first : (loads : List ℕ) (start end d : ℕ) → start < end → start < length loads → load loads start end ≡ get_or loads start d + load loads (start + 1) end
load_without_first loads start end d some inside =
    omega (
      arith,
      load_after loads start end (omega arith),
      load_after loads (start + 1) end (omega arith),
      sum_by_more (λ x. x) loads start d inside,
    )

-- a range that may be too heavy, and no wider one is within the limit
pub record IsSliding (loads : List ℕ) (end limit start weight : ℕ) : Type 0 where
  pub inside : start ≤ end
  pub weighed : weight ≡ load loads start end
  pub wider : (other : ℕ) → other ≤ end → load loads other end ≤ limit → start ≤ other

-- the next element goes in
pub element_in : (loads : List ℕ) (element limit start weight d : ℕ) → IsWindow loads element limit start weight → element < length loads
    → IsSliding loads (element + 1) limit start (weight + get_or loads element d)
element_in loads element limit start weight d window inside =
    record {
      inside = omega (arith, window.start_is.inside);
      weighed = omega (arith, window.weighed, load_with_last loads start element d window.start_is.inside inside);
      wider = λ other before light. elim (cases_lt element other) [
        | inl behind ↦ omega (arith, behind, window.start_is.inside)
        | inr inner ↦
            window.start_is.least other inner (omega (arith, light, load_with_last loads other element d inner inside))
      ];
    }

-- and where it makes the range too heavy, the first one goes out
pub element_out : (loads : List ℕ) (end limit start weight d : ℕ) → IsSliding loads end limit start weight → end ≤ length loads
    → limit < weight → (get_or loads start d ≤ weight) × (start < end) × IsSliding loads end limit (start + 1) (weight - get_or loads start d)
element_out loads end limit start weight d sliding within heavy =
    let some : start < end = elim (cases_lt start end) [
      | inl before ↦ before
      | inr met ↦
          let same : start ≡ end = omega (arith, met, sliding.inside) in
          let nothing : load loads start end ≡ 0 = subst (λ n. load loads start n ≡ 0) same (empty_load loads start) in
          absurd (omega (arith, nothing, sliding.weighed, heavy))
    ] in
    let first = load_without_first loads start end d some (omega arith) in
    let narrower : IsSliding loads end limit (start + 1) (weight - get_or loads start d) = record {
      inside = omega arith;
      weighed = omega (arith, first, sliding.weighed);
      wider = λ other before light. elim (cases_lt start other) [
        | inl behind ↦ omega arith
        | inr met ↦
            let same : start ≡ other = omega (arith, met, sliding.wider other before light) in
            let too_heavy : limit < load loads other end = subst (λ n. limit < load loads n end) same (omega (arith, sliding.weighed, heavy)) in
            absurd (omega (arith, too_heavy, light))
      ];
    } in
    (omega (arith, first, sliding.weighed), some, narrower)

-- a range within the limit is the widest
pub stops : (loads : List ℕ) (end limit start weight : ℕ) → IsSliding loads end limit start weight → weight ≤ limit → IsWindow loads end limit start weight
stops loads end limit start weight sliding light =
    record {
      weighed = sliding.weighed;
      start_is = record { inside = sliding.inside; light = omega (arith, sliding.weighed); least = sliding.wider };
    }

-- the window at the beginning of the chain
pub empty_window : (loads : List ℕ) (limit : ℕ) → IsWindow loads 0 limit 0 0
empty_window loads limit =
    record {
      weighed = omega (arith, empty_load loads 0);
      start_is = record { inside = omega arith; light = omega (arith, empty_load loads 0); least = λ other _ _. omega arith };
    }

-- a range and the element behind it weigh less than 2^64
pub window_fits : (loads : List ℕ) (start end d : ℕ) → IsLoads loads → start ≤ end → end < length loads → load loads start end + get_or loads end d < 2 ^ 64
window_fits loads start end d measured onward inside =
    omega (
      arith,
      load_with_last loads start end d onward inside,
      load_after loads start (end + 1) (omega arith),
      sum_by-take-le (λ x. x) loads (end + 1),
      sum_small loads measured,
    )

-- a later window begins no earlier
pub never_back : (loads : List ℕ) (element limit start weight start₂ weight₂ : ℕ) → IsWindow loads element limit start weight
    → IsWindow loads (element + 1) limit start₂ weight₂ → start ≤ start₂
never_back loads element limit start weight start₂ weight₂ window next =
    elim (cases_lt element start₂) [
      | inl behind ↦ omega (arith, behind, window.start_is.inside)
      | inr inner ↦
          window.start_is.least start₂ inner (omega (arith, next.start_is.light, load_wider loads start₂ element start₂ (element + 1) (omega arith) inner (omega arith)))
    ]
