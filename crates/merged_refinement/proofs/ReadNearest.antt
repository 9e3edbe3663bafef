-- Cuts that are read off a table are nearest to the present ones.
use Rattle.std.proofs.Common.{◌≡◌, ℕ, zero, suc, ◌+◌, ◌-◌, ◌<◌, ◌≤◌, max, List, length, slice_index, arith, ap, ◌∙◌, subst, add-one, inl, inr}
use Rattle.std.proofs.lemmas.Bool.{cases_lt}
use Rattle.lb_snapshot.specs.Measured.{load}
use Rattle.lb_certificates.specs.Chain.{IsDivision}
use Rattle.lb_certificates.specs.Naming.{total}
use Rattle.lb_certificates.proofs.Chains.{block_within}
use Rattle.lb_certificates.proofs.Totals.{total_agree}
use Rattle.chain_refinement.specs.Refinement.{AreFewest, AreNearest, cut_cost, cuts_cost, LiesBetween}
use Rattle.chain_refinement.proofs.Bounds.{fewest_from_bound, height_below}
use Rattle.chain_refinement.proofs.CutCosts.{moved_by_cuts}
use Rattle.refinement_search.specs.Tables.{IsLevel, IsSearch, Searched}
use Rattle.merged_refinement.proofs.Tables.{cost_to, IsReading, read_bound, read_cost, read_within, rises_at, table_bounds, top}

-- a level ends at a place between the present cut and any other place on the level
level_between : (at : ℕ → ℕ) (present low cut other : ℕ) → ((x y : ℕ) → x ≤ y → at x ≤ at y) → IsLevel at present low cut → low ≤ other
    → at other ≤ at low → LiesBetween present cut other
level_between at present low cut other rises level behind no_higher =
    elim (cases_lt (max present low) other) [
      | inr inner ↦
          let ends : other ≤ cut = elim (cases_lt cut other) [
            | inr on ↦ on
            | inl past ↦ absurd (omega (arith, level.last other past inner, level.level, no_higher))
          ] in
          elim (cases_lt present low) [
            | inl late ↦ inl (omega (arith, late, level.from), omega (arith, late, level.to, behind))
            | inr early ↦ inr (ends, omega (arith, early, level.to))
          ]
      | inl outer ↦
          let full : max present low ≤ cut = elim (cases_lt cut (max present low)) [
            | inr on ↦ on
            | inl short ↦ absurd (omega (arith, level.last (max present low) short (omega arith), level.level, rises (max present low) other (omega (arith, outer)), no_higher))
          ] in
          inl (omega (arith, full), omega (arith, level.to, outer))
    ]

-- cuts that agree behind a place cost as much there
rest_same : (sizes : List (ℕ × ℕ)) (names cuts others : List ℕ) (b left : ℕ)
    → ((k : ℕ) → b < k → k ≤ b + left → slice_index others k ≡ slice_index cuts k)
    → total (b + left) (λ k. cut_cost sizes names k (slice_index others (k + 1))) + total b
    (λ k. cut_cost sizes names k (slice_index cuts (k + 1))) ≡ total b (λ k. cut_cost sizes names k (slice_index others (k + 1))) + total
    (b + left) (λ k. cut_cost sizes names k (slice_index cuts (k + 1)))
rest_same sizes names cuts others b left same =
    total_agree b left (λ k. cut_cost sizes names k (slice_index others (k + 1))) (λ k. cut_cost sizes names k (slice_index cuts (k + 1)))
    (λ k low high. ap (λ x. cut_cost sizes names k x) (same (k + 1) (omega arith) (omega arith)))

-- cuts that move the same number of bytes cost the same
same_cost : (s : Searched) (cuts others : List ℕ) → IsSearch s → AreFewest s.loads s.sizes s.names s.limit cuts
    → AreFewest s.loads s.sizes s.names s.limit others → cuts_cost s.sizes s.names others ≡ cuts_cost s.sizes s.names cuts
same_cost s cuts others h one other =
    omega (
      arith,
      one.fewest others other.within,
      other.fewest cuts one.within,
      moved_by_cuts s.sizes s.names cuts h.some_block (subst (λ n. IsDivision 0 n (length s.names) cuts) h.paired one.within.divides),
      moved_by_cuts s.sizes s.names others h.some_block (subst (λ n. IsDivision 0 n (length s.names) others) h.paired other.within.divides),
    )

-- where other cuts that move the fewest bytes are the same behind a cut, the height is no greater at their cut
no_higher_at : (s : Searched) (cuts others : List ℕ) (b : ℕ) → IsSearch s → IsReading s cuts → s.start (slice_index cuts 1) ≡ 0
    → AreFewest s.loads s.sizes s.names s.limit cuts → AreFewest s.loads s.sizes s.names s.limit others → b < length s.names
    → ((k : ℕ) → b < k → k ≤ length s.names → slice_index others k ≡ slice_index cuts k)
    → s.at b (slice_index others b) ≤ s.at b (s.start (slice_index cuts (b + 1)))
no_higher_at s cuts others b h read begins one other inside same =
    let left : ℕ = length s.names - 1 - b in
    let all : b + left ≡ length s.names - 1 = omega arith in
    let rest = rest_same s.sizes s.names cuts others b left (λ k behind within. same k behind (omega (arith, within))) in
    let whole : cuts_cost s.sizes s.names others + cost_to s cuts b ≡ cost_to s others b + cuts_cost s.sizes s.names cuts = subst
    (λ n. total n (λ k. cut_cost s.sizes s.names k (slice_index others (k + 1))) + cost_to s cuts b ≡ cost_to s others b + total n
    (λ k. cut_cost s.sizes s.names k (slice_index cuts (k + 1)))) all rest in
    let nothing : s.at 0 (s.start (slice_index cuts 1)) ≡ 0 = ap (s.at 0) begins ∙ h.table.first in
    omega (
      arith,
      whole,
      same_cost s cuts others h one other,
      read_cost s cuts b h read inside,
      nothing,
      height_below s.loads s.sizes s.names s.limit s.at (top s) others (table_bounds s h) other.within b inside,
    )

-- the cut of a block
nearest_at : (s : Searched) (cuts others : List ℕ) (b : ℕ) → IsSearch s → IsReading s cuts → s.start (slice_index cuts 1) ≡ 0
    → AreFewest s.loads s.sizes s.names s.limit cuts → AreFewest s.loads s.sizes s.names s.limit others → b < length s.names
    → ((k : ℕ) → b < k → k ≤ length s.names → slice_index others k ≡ slice_index cuts k)
    → LiesBetween (slice_index s.present b) (slice_index cuts b) (slice_index others b)
nearest_at s cuts others zero h read begins one other inside same =
    inl (omega (arith, h.divides.starts), omega (arith, read.starts))
nearest_at s cuts others (suc c) h read begins one other inside same =
    let b : ℕ = c + 1 in
    let next : ℕ = slice_index cuts (c + 1 + 1) in
    let here : slice_index others (c + 1 + 1) ≡ next = same (c + 1 + 1) (omega arith) (omega arith) in
    let block = block_within (length s.loads) (length s.names) others (c + 1) other.within.divides (omega arith) in
    let next_in : next ≤ length s.loads = omega (arith, here, block.1) in
    let light : load s.loads (slice_index others (c + 1)) next ≤ s.limit = subst
    (λ x. load s.loads (slice_index others (c + 1)) x ≤ s.limit) here (other.within.within (c + 1) (omega arith)) in
    let behind : s.start next ≤ slice_index others (c + 1) = (h.starts next next_in).least (slice_index others (c + 1)) (omega (arith, here, block.0)) light in
    let low : s.at (c + 1) (slice_index others (c + 1)) ≤ s.at (c + 1) (s.start next) = no_higher_at s cuts others (c + 1) h read begins one
    other (omega arith) (λ k after within. same k (omega (arith, after)) within) in
    let between : LiesBetween (slice_index s.present (c + 1)) (slice_index cuts (c + 1)) (slice_index others (c + 1)) = level_between
    (s.at (c + 1)) (slice_index s.present (c + 1)) (s.start next) (slice_index cuts (c + 1)) (slice_index others (c + 1))
    (λ x y onward. rises_at s (c + 1) x y h (omega arith) onward) (read.level c (omega arith)) behind low in
    subst (λ n. LiesBetween (slice_index s.present n) (slice_index cuts n) (slice_index others n)) (add-one c) between

pub read_nearest : (s : Searched) (cuts : List ℕ) → IsSearch s → IsReading s cuts → s.start (slice_index cuts 1) ≡ 0 → AreNearest s.loads s.sizes s.names s.present s.limit cuts
read_nearest s cuts h read begins =
    let fewest : AreFewest s.loads s.sizes s.names s.limit cuts = fewest_from_bound s.loads s.sizes s.names s.limit s.at cuts h.paired
    h.some_block (read_within s cuts h read begins) (read_bound s cuts h read begins) in
    record {
      fewest = fewest;
      nearest = λ others b other inside same. nearest_at s cuts others b h read begins fewest other inside same;
    }
