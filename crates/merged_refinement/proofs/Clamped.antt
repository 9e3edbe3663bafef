-- Cuts that are moved to bounds where they lie outside of them.
use Rattle.std.proofs.Common.{◌≡◌, ℕ, ◌+◌, ◌-◌, ◌<◌, ◌≤◌, min, max, List, length, map, slice_index, arith, sym, subst, inl, inr}
use Rattle.std.specs.List.{range_with_len}
use Rattle.std.proofs.lemmas.Bool.{cases_lt}
use Rattle.std.proofs.lemmas.List.FromFn.{get_or-map-range_with_len, length-map-range_with_len}
use Rattle.std.proofs.lemmas.List.Sorted.{IsNonDecreasingBy-from_default}
use Rattle.lb_snapshot.specs.Measured.{load}
use Rattle.lb_certificates.specs.Chain.{IsDivision}
use Rattle.lb_certificates.specs.Naming.{bytes_moved}
use Rattle.lb_certificates.proofs.Chains.{block_within, load_wider}
use Rattle.lb_certificates.proofs.Totals.{total_le}
use Rattle.chain_refinement.specs.Orders.{AreApartAt}
use Rattle.chain_refinement.specs.Refinement.{AreWithin, cut_cost}
use Rattle.chain_refinement.proofs.CutCosts.{moved_by_cuts}
use Rattle.chain_refinement.proofs.Orders.{cost_falls, cost_rises}
use Rattle.merged_refinement.specs.Merged.{AreBounds}

-- a cut, or the bound that is nearer
abbrev pub clamp : List ℕ → List ℕ → List ℕ → ℕ → ℕ
clamp near far cuts b =
    max (min (slice_index cuts b) (slice_index far b)) (slice_index near b)

abbrev pub clamped : ℕ → List ℕ → List ℕ → List ℕ → List ℕ
clamped blocks near far cuts = map (clamp near far cuts) (range_with_len 0 (blocks + 1))

pub clamped_at : (blocks : ℕ) (near far cuts : List ℕ) (b : ℕ) → b ≤ blocks → slice_index (clamped blocks near far cuts) b ≡ clamp near far cuts b
clamped_at blocks near far cuts b inside =
    get_or-map-range_with_len (clamp near far cuts) 0 (blocks + 1) b b 0 (omega arith) (omega arith)

-- elements in the order of their PEs, and bounds of the cuts between these
pub record IsBounded (loads : List ℕ) (sizes : List (ℕ × ℕ)) (names present : List ℕ) (limit : ℕ) (near far : List ℕ) : Type 0 where
  pub paired : length sizes ≡ length loads
  pub some_block : 0 < length names
  pub divides : IsDivision 0 (length loads) (length names) present
  pub apart : (b : ℕ) → b + 1 < length names → AreApartAt sizes names present b
  pub bounds : AreBounds loads present (length names) limit near far

-- later cuts of a list are later
later : (first end blocks : ℕ) (cuts : List ℕ) (i j : ℕ) → IsDivision first end blocks cuts → i ≤ j → j ≤ blocks → slice_index cuts i ≤ slice_index cuts j
later first end blocks cuts i j h onward inside =
    h.ordered i j 0 onward (omega (arith, h.counted))

clamp_rises : (loads : List ℕ) (sizes : List (ℕ × ℕ)) (names present : List ℕ) (limit : ℕ) (near far cuts : List ℕ) (i j : ℕ)
    → IsBounded loads sizes names present limit near far → IsDivision 0 (length loads) (length names) cuts → i ≤ j → j ≤ length names
    → clamp near far cuts i ≤ clamp near far cuts j
clamp_rises loads sizes names present limit near far cuts i j h divides onward inside =
    let a = later 0 (length loads) (length names) cuts i j divides onward inside in
    let b = later 0 (slice_index near (length names)) (length names) near i j h.bounds.near_divides onward inside in
    let c = later (slice_index far 0) (length loads) (length names) far i j h.bounds.far_divides onward inside in
    omega (arith, a, b, c)

clamped_divides : (loads : List ℕ) (sizes : List (ℕ × ℕ)) (names present : List ℕ) (limit : ℕ) (near far cuts : List ℕ)
    → IsBounded loads sizes names present limit near far → IsDivision 0 (length loads) (length names) cuts
    → IsDivision 0 (length loads) (length names) (clamped (length names) near far cuts)
clamped_divides loads sizes names present limit near far cuts h divides =
    let blocks : ℕ = length names in
    let counted : length (clamped blocks near far cuts) ≡ blocks + 1 = length-map-range_with_len (clamp near far cuts) 0 (blocks + 1) in
    record {
      counted = counted;
      starts = omega (arith, clamped_at blocks near far cuts 0 (omega arith), divides.starts, h.bounds.near_divides.starts);
      ordered = IsNonDecreasingBy-from_default (λ x. x) (clamped blocks near far cuts) 0 (λ i j onward inside.
          let last : j ≤ blocks = omega (arith, inside, counted) in
          omega (
            arith,
            clamped_at blocks near far cuts i (omega (arith, onward, last)),
            clamped_at blocks near far cuts j last,
            clamp_rises loads sizes names present limit near far cuts i j h divides onward last,
          ));
      ends = omega (
        arith,
        clamped_at blocks near far cuts blocks (omega arith),
        divides.ends,
        h.divides.ends,
        h.bounds.far_divides.ends,
        h.bounds.near_before blocks (omega arith),
      );
    }

clamp_light : (loads : List ℕ) (sizes : List (ℕ × ℕ)) (names present : List ℕ) (limit : ℕ) (near far cuts : List ℕ) (b : ℕ)
    → IsBounded loads sizes names present limit near far → AreWithin loads names limit cuts → b < length names
    → load loads (clamp near far cuts b) (clamp near far cuts (b + 1)) ≤ limit
clamp_light loads sizes names present limit near far cuts b h within inside =
    let here : slice_index near b ≤ slice_index far b = omega (arith, h.bounds.near_before b (omega arith), h.bounds.far_behind b (omega arith)) in
    let next : slice_index near (b + 1) ≤ slice_index far (b + 1) = omega (arith, h.bounds.near_before (b + 1) (omega arith), h.bounds.far_behind (b + 1) (omega arith)) in
    let rises : clamp near far cuts b ≤ clamp near far cuts (b + 1) = clamp_rises loads sizes names present limit near far cuts b (b + 1) h
    within.divides (omega arith) (omega arith) in
    elim (cases_lt (slice_index near (b + 1)) (slice_index cuts (b + 1))) [
      | inr early ↦
          omega (
            arith,
            h.bounds.near_within b inside,
            load_wider loads (clamp near far cuts b) (clamp near far cuts (b + 1))
                (slice_index near b) (slice_index near (b + 1)) (omega arith) rises (omega (arith, early, next)),
          )
      | inl behind ↦ elim (cases_lt (slice_index far b) (slice_index cuts b)) [
        | inl late ↦
            omega (
              arith,
              h.bounds.far_within b inside,
              load_wider loads (clamp near far cuts b) (clamp near far cuts (b + 1))
                  (slice_index far b) (slice_index far (b + 1)) (omega (arith, late)) rises (omega (arith, next)),
            )
        | inr before ↦
            omega (
              arith,
              within.within b inside,
              load_wider loads (clamp near far cuts b) (clamp near far cuts (b + 1))
                  (slice_index cuts b) (slice_index cuts (b + 1)) (omega (arith, before)) rises (omega (arith, behind)),
            )
      ]
    ]

-- they are still within the limit
pub clamped_within : (loads : List ℕ) (sizes : List (ℕ × ℕ)) (names present : List ℕ) (limit : ℕ) (near far cuts : List ℕ)
    → IsBounded loads sizes names present limit near far → AreWithin loads names limit cuts
    → AreWithin loads names limit (clamped (length names) near far cuts)
clamped_within loads sizes names present limit near far cuts h within =
    record {
      divides = clamped_divides loads sizes names present limit near far cuts h within.divides;
      within = λ b inside.
          rw (clamped_at (length names) near far cuts b (omega arith), clamped_at (length names) near far cuts (b + 1) (omega arith))
          (clamp_light loads sizes names present limit near far cuts b h within inside);
    }

clamp_cheaper : (loads : List ℕ) (sizes : List (ℕ × ℕ)) (names present : List ℕ) (limit : ℕ) (near far cuts : List ℕ) (b : ℕ)
    → IsBounded loads sizes names present limit near far → IsDivision 0 (length loads) (length names) cuts → b + 1 < length names
    → cut_cost sizes names b (clamp near far cuts (b + 1)) ≤ cut_cost sizes names b (slice_index cuts (b + 1))
clamp_cheaper loads sizes names present limit near far cuts b h divides inside =
    let cut : ℕ = slice_index cuts (b + 1) in
    let before = h.bounds.near_before (b + 1) (omega arith) in
    let behind = h.bounds.far_behind (b + 1) (omega arith) in
    let present_in = (block_within (length loads) (length names) present b h.divides (omega arith)).1 in
    let cut_in = (block_within (length loads) (length names) cuts b divides (omega arith)).1 in
    elim (cases_lt cut (slice_index near (b + 1))) [
      | inl early ↦
          let same : slice_index near (b + 1) ≡ clamp near far cuts (b + 1) = omega (arith, early, before, behind) in
          subst (λ x. cut_cost sizes names b x ≤ cut_cost sizes names b cut) same
          (cost_falls sizes names present b cut (slice_index near (b + 1)) (h.apart b inside) (omega (arith, early)) before
          (omega (arith, present_in, h.paired)))
      | inr on ↦ elim (cases_lt (slice_index far (b + 1)) cut) [
        | inl late ↦
            let same : slice_index far (b + 1) ≡ clamp near far cuts (b + 1) = omega (arith, late, before, behind) in
            subst (λ x. cut_cost sizes names b x ≤ cut_cost sizes names b cut) same
            (cost_rises sizes names present b (slice_index far (b + 1)) cut (h.apart b inside) behind (omega (arith, late))
            (omega (arith, cut_in, h.paired)))
        | inr within ↦
            let same : cut ≡ clamp near far cuts (b + 1) = omega (arith, on, within) in
            subst (λ x. cut_cost sizes names b x ≤ cut_cost sizes names b cut) same (omega arith)
      ]
    ]

-- and move no more bytes
pub clamped_cheaper : (loads : List ℕ) (sizes : List (ℕ × ℕ)) (names present : List ℕ) (limit : ℕ) (near far cuts : List ℕ)
    → IsBounded loads sizes names present limit near far → IsDivision 0 (length loads) (length names) cuts
    → bytes_moved sizes (clamped (length names) near far cuts) names ≤ bytes_moved sizes cuts names
clamped_cheaper loads sizes names present limit near far cuts h divides =
    let bounded : List ℕ = clamped (length names) near far cuts in
    let costs = total_le (length names - 1) (λ b. cut_cost sizes names b (slice_index bounded (b + 1))) (λ b. cut_cost sizes names b (slice_index cuts (b + 1))) (λ b inside.
    subst (λ x. cut_cost sizes names b x ≤ cut_cost sizes names b (slice_index cuts (b + 1)))
    (sym (clamped_at (length names) near far cuts (b + 1) (omega arith)))
    (clamp_cheaper loads sizes names present limit near far cuts b h divides (omega arith))) in
    omega (
      arith,
      costs,
      moved_by_cuts sizes names cuts h.some_block (subst (λ n. IsDivision 0 n (length names) cuts) (sym h.paired) divides),
      moved_by_cuts sizes names bounded h.some_block (subst (λ n. IsDivision 0 n (length names) bounded) (sym h.paired)
          (clamped_divides loads sizes names present limit near far cuts h divides)),
    )
