-- The loads of the PEs, element by element.
use Rattle.std.proofs.Common.{◌≡◌, ◌≢◌, ℕ, ◌+◌, ◌^◌, ◌<◌, ◌≤◌, inl, inr, List, length, map, set, get_or, slice_index, sum, sum_by, take, zip, arith, ap, subst, sym, ◌∙◌, replicate}
use Rattle.std.specs.List.{range_with_len}
use Rattle.std.proofs.lemmas.Bool.{cases_eq}
use Rattle.std.proofs.lemmas.Bool.Decides.{nat_tests}
use Rattle.std.proofs.lemmas.List.{get_or-replicate, get_or-set_other, get_or-set_same, length-replicate, length-set, take_all}
use Rattle.std.proofs.lemmas.List.FromFn.{fill_by_all}
use Rattle.std.proofs.lemmas.List.Sums.{sum-map, sum_by_more, sum_by_more_le_part}
use Rattle.std.proofs.lemmas.Slice.Zip.{firsts-zip, get_or-zip, length-zip}
use Rattle.lb_snapshot.specs.Measured.{IsLoads}
use Rattle.lb_snapshot.proofs.LoadSums.{sum_small}
use Rattle.run_trace.specs.Shown.{load_at, load_on}

-- the loads of the first n elements are on their PEs
abbrev pub AreAdded : List ℕ → List (ℕ × ℕ) → ℕ → List ℕ → Type 0
AreAdded loads sizes n sums = (p : ℕ) → p < length sums → slice_index sums p ≡ sum_by (load_at p) (take n (zip loads sizes))

pub none_added : (loads : List ℕ) (sizes : List (ℕ × ℕ)) (n : ℕ) (sums : List ℕ) → sums ≡ replicate n 0 → AreAdded loads sizes 0 sums
none_added loads sizes n sums zeros p inside =
    ap (λ xs. slice_index xs p) zeros ∙ get_or-replicate n p 0 0 (omega (arith, inside, ap length zeros, length-replicate {A = ℕ} n 0))

load_part : (p : ℕ) (element : ℕ × (ℕ × ℕ)) → load_at p element ≤ element.0
load_part p element = grind (arith, nat_tests)

load_here : (p : ℕ) (element : ℕ × (ℕ × ℕ)) → element.1.1 ≡ p → load_at p element ≡ element.0
load_here p element here = grind (arith, nat_tests)

load_elsewhere : (p : ℕ) (element : ℕ × (ℕ × ℕ)) → element.1.1 ≢ p → load_at p element ≡ 0
load_elsewhere p element elsewhere = grind (arith, nat_tests)

module _ (loads : List ℕ) (sizes : List (ℕ × ℕ)) (paired : length loads ≡ length sizes) where
  as_long : length (zip loads sizes) ≡ length loads
  as_long = omega (arith, length-zip loads sizes, paired)

  element_is : (i : ℕ) → i < length loads → get_or (zip loads sizes) i (0, (0, 0)) ≡ (get_or loads i 0, get_or sizes i (0, 0))
  element_is i inside = get_or-zip loads sizes i (0, (0, 0)) inside (omega (arith, paired))

  all_loads : sum_by (λ element. element.0) (zip loads sizes) ≡ sum loads
  all_loads = sym (sum-map (λ element. element.0) (zip loads sizes)) ∙ ap sum (firsts-zip loads sizes (sym paired))

  -- the sum with one more load fits its 64 bits
  pub next_fits : (sums : List ℕ) (i p : ℕ) → AreAdded loads sizes i sums → IsLoads loads → i < length loads → p < length sums → slice_index sums p + slice_index loads i < 2 ^ 64
  next_fits sums i p added within inside on =
      let part = sum_by_more_le_part (load_at p) (λ element. element.0) (zip loads sizes) i (0, (0, 0)) (omega (arith, as_long)) (load_part p) in
      omega (arith, added p on, part, ap (λ element. element.0) (element_is i inside), all_loads, sum_small loads within)

  -- one more load is added
  pub load_added : (sums : List ℕ) (i place : ℕ) → AreAdded loads sizes i sums → i < length loads → place ≡ (get_or sizes i (0, 0)).1 → place < length sums
      → AreAdded loads sizes (i + 1) (set sums place (slice_index sums place + slice_index loads i))
  load_added sums i place added inside placed on p below =
      let sum : ℕ = slice_index sums place + slice_index loads i in
      let kept = length-set sums place sum in
      let before = added p (omega (arith, below, kept)) in
      let element : ℕ × (ℕ × ℕ) = get_or (zip loads sizes) i (0, (0, 0)) in
      let is = element_is i inside in
      let place_is : element.1.1 ≡ place = ap (λ e. e.1.1) is ∙ sym placed in
      let load_is : element.0 ≡ slice_index loads i = ap (λ e. e.0) is in
      let more = sum_by_more (load_at p) (zip loads sizes) i (0, (0, 0)) (omega (arith, as_long)) in
      elim (cases_eq place p) [
        | inl here ↦
            let at : slice_index (set sums place sum) p ≡ sum = subst (λ q. slice_index (set sums place sum) q ≡ sum) here (get_or-set_same sums place sum 0 on) in
            omega (arith, at, ap (slice_index sums) here, before, more, load_here p element (place_is ∙ here), load_is)
        | inr other ↦
            omega (arith, get_or-set_other sums place p sum 0 (λ e. other (sym e)), before, more, load_elsewhere p element (λ e. other (sym place_is ∙ e)))
      ]

  -- all loads are added
  pub all_added : (sums : List ℕ) (i pes : ℕ) → AreAdded loads sizes i sums → length loads ≤ i → length sums ≡ pes → sums ≡ map (load_on loads sizes) (range_with_len 0 pes)
  all_added sums i pes added past duration =
      fill_by_all (load_on loads sizes) sums pes 0 duration
      (λ p below. added p (omega (arith, below, duration)) ∙ ap (sum_by (load_at p)) (take_all i (zip loads sizes) (omega (arith, as_long, past))))
