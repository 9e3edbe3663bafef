-- Where the elements are placed by a right decision, each PE has the load of its block.
use Rattle.std.proofs.Common.{◌≡◌, ◌≢◌, ℕ, zero, suc, ◌+◌, ◌-◌, ◌<◌, ◌≤◌, inl, inr, List, length, take, slice_index, sum, arith, ap, refl, subst, sym, ◌∙◌, add-one}
use Rattle.std.specs.Prelude.{◌==◌, if◌then◌else◌}
use Rattle.std.proofs.lemmas.Bool.{cases_eq, eq-eqb, ne_eqb}
use Rattle.std.proofs.lemmas.List.FromFn.{get_or-map-range_with_len}
use Rattle.lb_certificates.specs.Chain.{IsDivision, block_load, peak}
use Rattle.lb_certificates.specs.Naming.{IsNaming, block_of, blocks_between, total}
use Rattle.lb_certificates.proofs.BlockSums.{block_of_is}
use Rattle.lb_certificates.proofs.Chains.{block_load-le-peak, load_after, peak-le}
use Rattle.lb_certificates.proofs.Totals.{total_agree, total_none, total_same, total_take}
use Rattle.lb_strategy.specs.Decisions.{IsRight}
use Rattle.lb_strategy.specs.Moves.{planned_pe}
use Rattle.lb_strategy.specs.declared.decision.Decision.{Decision}
use Rattle.lb_strategy.proofs.RightDecisions.{least_from_right}
use Rattle.load_report.specs.Figures.{greatest, load_at, load_of, planned_places}

-- a number where two others are the same, and otherwise 0
abbrev when : ℕ → ℕ → ℕ → ℕ
when a b n = if a == b then n else 0

when_same : (a b n : ℕ) → a ≡ b → when a b n ≡ n
when_same a b n same = rw (eq-eqb a b same) refl

when_apart : (a b n : ℕ) → a ≢ b → when a b n ≡ 0
when_apart a b n apart = rw (ne_eqb a b apart) refl

greatest_above : (n q : ℕ) (f : ℕ → ℕ) → q < n → f q ≤ greatest n f
greatest_above zero q f inside = absurd (omega arith)
greatest_above (suc n) q f inside =
    elim (cases_eq q n) [
      | inl last ↦ omega (arith, ap f last)
      | inr other ↦ omega (arith, greatest_above n q f (omega arith))
    ]

greatest_within : (n m : ℕ) (f : ℕ → ℕ) → ((q : ℕ) → q < n → f q ≤ m) → greatest n f ≤ m
greatest_within zero m f each = omega arith
greatest_within (suc n) m f each = omega (arith, greatest_within n m f (λ q inside. each q (omega arith)), each n (omega arith))

total_above : (n b : ℕ) (f : ℕ → ℕ) → b < n → f b ≤ total n f
total_above zero b f inside = absurd (omega arith)
total_above (suc n) b f inside =
    elim (cases_eq b n) [
      | inl last ↦ omega (arith, ap f last)
      | inr other ↦ omega (arith, total_above n b f (omega arith))
    ]

-- of blocks with different names at most one has this name
once : (k p m : ℕ) (names loads : ℕ → ℕ) → ((a b : ℕ) → a < b → b < k → names a ≢ names b) → ((b : ℕ) → b < k → loads b ≤ m) → total k (λ b. when (names b) p (loads b)) ≤ m
once zero p m names loads apart within = omega arith
once (suc k) p m names loads apart within =
    elim (cases_eq (names k) p) [
      | inl here ↦
          let before : total k (λ b. when (names b) p (loads b)) ≡ 0 =
          total_same k (λ b. when (names b) p (loads b)) (λ _. 0)
          (λ b inside. when_apart (names b) p (loads b) (λ e. apart b k inside (omega arith) (e ∙ sym here))) ∙ total_none k in
          omega (arith, before, when_same (names k) p (loads k) here, within k (omega arith))
      | inr other ↦
          omega (arith, once k p m names loads (λ a b low high. apart a b low (omega arith)) (λ b inside. within b (omega arith)), when_apart (names k) p (loads k) other)
    ]

module _ (loads cuts names : List ℕ) (blocks n p : ℕ) (division : IsDivision 0 n blocks cuts) (whole : n ≡ length loads) where
  -- an element's load where the name of its block is p
  abbrev at_name : ℕ → ℕ
  at_name i = when (slice_index names (block_of cuts i)) p (slice_index loads i)

  -- and that of a block
  abbrev of_block : ℕ → ℕ
  of_block b = when (slice_index names b) p (block_load loads cuts b)

  loads_below : (k : ℕ) → k ≤ n → total k (slice_index loads) ≡ sum (take k loads)
  loads_below k inside = total_take (λ x. x) loads 0 k (omega arith)

  blocks_before : (k : ℕ) → k ≤ blocks → total (slice_index cuts k) at_name ≡ total k of_block
  blocks_before zero inside = ap (λ m. total m at_name) division.starts
  blocks_before (suc k) inside =
      let start : ℕ = slice_index cuts k in
      let end : ℕ = slice_index cuts (k + 1) in
      let rises : start ≤ end = division.ordered k (k + 1) 0 (omega arith) (omega (arith, division.counted)) in
      let stays : end ≤ n = omega (arith, division.ends, division.ordered (k + 1) blocks 0 (omega arith) (omega (arith, division.counted))) in
      let same : end ≡ start + (end - start) = omega arith in
      let named : ℕ → ℕ = λ i. when (slice_index names k) p (slice_index loads i) in
      let agree : total end at_name + total start named ≡ total start at_name + total end named =
      subst (λ m. total m at_name + total start named ≡ total start at_name + total m named) (sym same)
      (total_agree start (end - start) at_name named (λ i low high. ap (λ b. when (slice_index names b) p (slice_index loads i))
      (block_of_is n blocks cuts k i division (omega arith) low (omega arith)))) in
      let before : total start at_name ≡ total k of_block = blocks_before k (omega arith) in
      let block : total start named + of_block k ≡ total end named = elim (cases_eq (slice_index names k) p) [
        | inl here ↦
            let plain : (m : ℕ) → total m named ≡ total m (slice_index loads) = λ m. total_same m named (slice_index loads)
            (λ i _. when_same (slice_index names k) p (slice_index loads i) here) in
            omega (
              arith,
              plain start,
              plain end,
              loads_below start (omega arith),
              loads_below end stays,
              load_after loads start end rises,
              when_same (slice_index names k) p (block_load loads cuts k) here,
            )
        | inr other ↦
            let none : (m : ℕ) → total m named ≡ 0 = λ m. total_same m named (λ _. 0) (λ i _. when_apart (slice_index names k) p (slice_index loads i) other) ∙ total_none m in
            omega (arith, none start, none end, when_apart (slice_index names k) p (block_load loads cuts k) other)
      ] in
      let done : total end at_name ≡ total k of_block + of_block k = omega (arith, agree, before, block) in
      subst (λ m. total (slice_index cuts m) at_name ≡ total k of_block + of_block k) (add-one k) done

  -- the load of a PE, block by block
  pub planned_load : load_of loads (planned_places cuts names n) p ≡ total blocks of_block
  planned_load =
      total_same (length loads) (load_at loads (planned_places cuts names n) p) at_name
      (λ i inside. ap (λ place. when place p (slice_index loads i)) (get_or-map-range_with_len (planned_pe cuts names) 0 n i i 0 (omega arith) (omega arith)))
      ∙ ap (λ m. total m at_name) (sym whole ∙ sym division.ends)
      ∙ blocks_before blocks (omega arith)

-- where the blocks have the names of the PEs, the greatest load of a PE is that of a block
pub placed_greatest : (loads cuts names : List ℕ) (pes n : ℕ) → n ≡ length loads → IsDivision 0 n pes cuts → IsNaming pes names
    → greatest pes (load_of loads (planned_places cuts names n)) ≡ peak loads cuts
placed_greatest loads cuts names pes n whole division naming = omega (arith, above, below)
  where
    on : (p : ℕ) → load_of loads (planned_places cuts names n) p ≡ total pes (λ b. when (slice_index names b) p (block_load loads cuts b))
    on p = planned_load loads cuts names pes n p division whole

    above : greatest pes (load_of loads (planned_places cuts names n)) ≤ peak loads cuts
    above =
        greatest_within pes (peak loads cuts) (load_of loads (planned_places cuts names n))
        (λ p inside. omega (
          arith,
          on p,
          once pes p (peak loads cuts) (slice_index names) (block_load loads cuts) naming.apart
              (λ b low. block_load-le-peak loads cuts b (omega (arith, low, division.counted))),
        ))

    below : peak loads cuts ≤ greatest pes (load_of loads (planned_places cuts names n))
    below =
        peak-le loads cuts (greatest pes (load_of loads (planned_places cuts names n)))
        (λ b inside.
        let low : b < pes = omega (arith, inside, division.counted) in
        let p : ℕ = slice_index names b in
        let f : ℕ → ℕ = λ a. when (slice_index names a) p (block_load loads cuts a) in
        omega (
          arith,
          total_above pes b f low,
          when_same p p (block_load loads cuts b) refl,
          on p,
          greatest_above pes p (load_of loads (planned_places cuts names n)) (naming.below b low),
        ))

pub planned_greatest : {A : Type 0} (loads : List ℕ) (sizes : List (ℕ × ℕ)) (pes : ℕ) (d : Decision A) → length loads ≡ length sizes → IsRight loads sizes pes d
    → greatest pes (load_of loads (planned_places d.division.cuts d.naming (length sizes))) ≡ d.division.bottleneck
planned_greatest loads sizes pes d paired right =
    let division : IsDivision 0 (length sizes) pes d.division.cuts = subst (λ m. IsDivision 0 m pes d.division.cuts) paired right.division.divides in
    let counted : blocks_between d.division.cuts ≡ pes = omega (arith, right.division.divides.counted) in
    let naming : IsNaming pes d.naming = subst (λ m. IsNaming m d.naming) counted right.named.naming in
    placed_greatest loads d.division.cuts d.naming pes (length sizes) (sym paired) division naming ∙ (least_from_right loads sizes pes d right).peak_is
