-- What cuts cost where the ranks keep their order, by the bytes of ranges of elements.
use Rattle.std.proofs.Common.{◌≡◌, ◌≢◌, ◌⊎◌, ℕ, ◌+◌, ◌-◌, ◌<◌, ◌≤◌, min, max, cond, List, length, sum, slice_index, slice_index_or, sum_by, arith, refl, ap, sym, ◌∙◌, subst, inl, inr}
use Rattle.std.proofs.lemmas.Bool.{cases_lt, eq-eqb}
use Rattle.lb_snapshot.specs.Measured.{load}
use Rattle.lb_certificates.specs.Chain.{IsDivision}
use Rattle.lb_certificates.specs.Naming.{block_of, total}
use Rattle.lb_certificates.proofs.BlockSums.{block_of_is}
use Rattle.lb_certificates.proofs.Chains.{block_within, load_after, load_wider}
use Rattle.lb_certificates.proofs.Totals.{total_agree, total_same, total_take}
use Rattle.chain_refinement.specs.Orders.{place_of}
use Rattle.chain_refinement.specs.Refinement.{cut_cost, held_before, held_bytes, held_from}
use Rattle.chain_refinement.proofs.CutCosts.{held_whole}
use Rattle.chain_refinement.proofs.Orders.{block_around, none_between}
use Rattle.std.proofs.Math.Seq.{drop-length}
use Rattle.chain_partition.proofs.RunningSums.{load_split, load_within}
use Rattle.merged_chains.proofs.MergedPeaks.{load_back}
use Rattle.merged_refinement.specs.InOrder.{in_order, sizes_on}
use Rattle.merged_refinement.specs.Rows.{standing_cost}
use Rattle.merged_refinement.proofs.Placed.{name_at, size_at, sizes_counted}

-- on its own rank an element holds its bytes
held_there : (bytes on : ℕ) → held_bytes (bytes, on) on ≡ bytes
held_there bytes on = ap (λ t. cond t bytes 0) (eq-eqb on on refl)

-- what the first elements hold on a rank
abbrev pub held_up_to : List ℕ → List ℕ → ℕ → ℕ → ℕ
held_up_to bytes present on n =
    total n (λ i. held_bytes (slice_index bytes i, block_of present i) on)

held_of_sizes : (bytes present : List ℕ) (on n : ℕ) → n ≤ length bytes → held_before (sizes_on bytes present) on n ≡ held_up_to bytes present on n
held_of_sizes bytes present on n inside =
    sym (total_take (λ size. held_bytes size on) (sizes_on bytes present) (0, 0) n (omega (arith, sizes_counted bytes present)))
    ∙ total_same n (λ i. held_bytes (slice_index_or (sizes_on bytes present) i (0, 0)) on)
    (λ i. held_bytes (slice_index bytes i, block_of present i) on) (λ i below. ap (λ size. held_bytes size on) (size_at bytes present i (omega arith)))

-- a range of elements of a rank holds its bytes there
held_of_block : (bytes present : List ℕ) (on a b : ℕ) → a ≤ b → b ≤ length bytes → ((i : ℕ) → a ≤ i → i < b → block_of present i ≡ on)
    → held_up_to bytes present on b ≡ held_up_to bytes present on a + load bytes a b
held_of_block bytes present on a b onward inside stands =
    let here : ℕ → ℕ = λ i. held_bytes (slice_index bytes i, block_of present i) on in
    let same : ℕ → ℕ = λ i. slice_index bytes i in
    let end : a + (b - a) ≡ b = omega arith in
    let agree : total b here + total a same ≡ total a here + total b same = subst
    (λ n. total n here + total a same ≡ total a here + total n same) end
    (total_agree a (b - a) here same (λ i low high. ap (λ q. held_bytes (slice_index bytes i, q) on) (stands i low (omega arith))
    ∙ held_there (slice_index bytes i) on)) in
    omega (
      arith,
      agree,
      total_take (λ x. x) bytes 0 a (omega arith),
      total_take (λ x. x) bytes 0 b inside,
      load_after bytes a b onward,
    )

-- an element that is not between the cuts of a rank is on another one
elsewhere : (bytes present : List ℕ) (ranks on i : ℕ) → IsDivision 0 (length bytes) ranks present → i < length bytes
    → (i < slice_index present on) ⊎ (slice_index present (on + 1) ≤ i) → place_of (sizes_on bytes present) i ≢ on
elsewhere bytes present ranks on i divides within out same =
    let around = block_around present ranks i (omega (arith, divides.starts)) (omega (arith, divides.ends)) in
    let place : place_of (sizes_on bytes present) i ≡ around.0 = ap (λ (size : ℕ × ℕ). size.1) (size_at bytes present i within)
    ∙ block_of_is (length bytes) ranks present around.0 i divides around.1 around.2 around.3 in
    let met : around.0 ≡ on = sym place ∙ same in
    elim out [
      | inl early ↦ omega (arith, early, subst (λ b. slice_index present b ≤ i) met around.2)
      | inr late ↦ omega (arith, late, subst (λ b. i < slice_index present (b + 1)) met around.3)
    ]

-- before a place a rank holds the bytes of its elements before it
pub held_to : (bytes present : List ℕ) (ranks on x : ℕ) → IsDivision 0 (length bytes) ranks present → on < ranks → x ≤ length bytes
    → held_before (sizes_on bytes present) on x ≡ load bytes (slice_index present on) (min x (slice_index present (on + 1)))
held_to bytes present ranks on x divides few inside =
    let from : ℕ = slice_index present on in
    let to : ℕ = slice_index present (on + 1) in
    let sizes : List (ℕ × ℕ) = sizes_on bytes present in
    let block = block_within (length bytes) ranks present on divides few in
    let counted : length sizes ≡ length bytes = sizes_counted bytes present in
    let off : (i : ℕ) → i < length bytes → (i < from) ⊎ (to ≤ i) → place_of sizes i ≢ on = λ i within out. elsewhere bytes present ranks on i divides within out in
    elim (cases_lt from x) [
      | inr early ↦
          let none = none_between sizes on 0 x (omega arith) (omega (arith, counted)) (λ i low high. off i (omega arith) (inl (omega (arith, early, high)))) in
          let start : held_before sizes on 0 ≡ 0 = refl in
          omega (arith, none, start, load_back bytes from (min x to) (omega (arith, early)))
      | inl behind ↦
          let none = none_between sizes on 0 from (omega arith) (omega (arith, counted, block.0, block.1))
          (λ i low high. off i (omega (arith, high, block.0, block.1)) (inl high)) in
          let start : held_before sizes on 0 ≡ 0 = refl in
          let nothing : held_up_to bytes present on from ≡ 0 = omega (arith, none, start, held_of_sizes bytes present on from (omega (arith, block.0, block.1))) in
          elim (cases_lt to x) [
            | inr inner ↦
                let all = held_of_block bytes present on from x (omega (arith, behind)) inside
                (λ i low high. block_of_is (length bytes) ranks present on i divides few low (omega (arith, high, inner))) in
                let same : x ≡ min x to = omega (arith, inner) in
                subst (λ n. held_before sizes on x ≡ load bytes from n) same (omega (arith, all, nothing, held_of_sizes bytes present on x inside))
            | inl past ↦
                let all = held_of_block bytes present on from to block.0 block.1 (λ i low high. block_of_is (length bytes) ranks present on i divides few low high) in
                let same : to ≡ min x to = omega (arith, past) in
                let stays = none_between sizes on to x (omega (arith, past)) (omega (arith, counted)) (λ i low high. off i (omega (arith, high)) (inr low)) in
                subst (λ n. held_before sizes on x ≡ load bytes from n) same (omega (arith, all, nothing, stays, held_of_sizes bytes present on to block.1))
          ]
    ]

-- and from the place on the others
held_on : (bytes present : List ℕ) (ranks on x : ℕ) → IsDivision 0 (length bytes) ranks present → on < ranks → x ≤ length bytes
    → held_from (sizes_on bytes present) on x ≡ load bytes (max x (slice_index present on)) (slice_index present (on + 1))
held_on bytes present ranks on x divides few inside =
    let from : ℕ = slice_index present on in
    let to : ℕ = slice_index present (on + 1) in
    let sizes : List (ℕ × ℕ) = sizes_on bytes present in
    let block = block_within (length bytes) ranks present on divides few in
    let whole : held_before sizes on (length bytes) + held_from sizes on (length bytes) ≡ held_before sizes on x + held_from sizes on
    x = held_whole sizes on (length bytes) ∙ sym (held_whole sizes on x) in
    let none : held_from sizes on (length bytes) ≡ 0 = subst (λ n. held_from sizes on n ≡ 0) (sizes_counted bytes present)
    (ap (sum_by (λ size. held_bytes size on)) (drop-length sizes)) in
    let all = held_to bytes present ranks on (length bytes) divides few (omega arith) in
    let before = held_to bytes present ranks on x divides few inside in
    let last : to ≡ min (length bytes) to = omega (arith, block.1) in
    let all_to : held_before sizes on (length bytes) ≡ load bytes from to = subst (λ n. held_before sizes on (length bytes) ≡ load bytes from n) (sym last) all in
    elim (cases_lt from x) [
      | inr early ↦
          let same : from ≡ max x from = omega (arith, early) in
          let nothing = load_back bytes from (min x to) (omega (arith, early)) in
          subst (λ n. held_from sizes on x ≡ load bytes n to) same (omega (arith, whole, none, all_to, before, nothing))
      | inl behind ↦ elim (cases_lt to x) [
        | inl past ↦
            let same : to ≡ min x to = omega (arith, past) in
            let before_to : held_before sizes on x ≡ load bytes from to = subst (λ n. held_before sizes on x ≡ load bytes from n) (sym same) before in
            omega (arith, whole, none, all_to, before_to, load_back bytes (max x from) to (omega (arith, past)))
        | inr inner ↦
            let same : x ≡ min x to = omega (arith, inner) in
            let here : x ≡ max x from = omega (arith, behind) in
            let before_x : held_before sizes on x ≡ load bytes from x = subst (λ n. held_before sizes on x ≡ load bytes from n) (sym same) before in
            let split : load bytes from x + load bytes x to ≡ load bytes from to = omega
            (arith, load_split bytes from x (omega (arith, behind)), load_split bytes x to inner, load_split bytes from to block.0) in
            subst (λ n. held_from sizes on x ≡ load bytes n to) here (omega (arith, whole, none, all_to, before_x, split))
      ]
    ]

-- so a cut costs the bytes of its rank behind it, and those of the next rank before it
pub cost_is : (bytes present : List ℕ) (ranks b x : ℕ) → IsDivision 0 (length bytes) ranks present → b + 1 < ranks → x ≤ length bytes
    → cut_cost (sizes_on bytes present) (in_order ranks) b x ≡ standing_cost bytes (slice_index present b) (slice_index present (b + 1)) (slice_index present (b + 1 + 1)) x
cost_is bytes present ranks b x divides few inside =
    let one : held_from (sizes_on bytes present) (slice_index (in_order ranks) b) x ≡ held_from (sizes_on bytes present) b x = ap
    (λ q. held_from (sizes_on bytes present) q x) (name_at ranks b (omega arith)) in
    let other : held_before (sizes_on bytes present) (slice_index (in_order ranks) (b + 1)) x ≡ held_before (sizes_on bytes present) (b + 1)
    x = ap (λ q. held_before (sizes_on bytes present) q x) (name_at ranks (b + 1) few) in
    omega (
      arith,
      one,
      other,
      held_on bytes present ranks b x divides (omega arith) inside,
      held_to bytes present ranks (b + 1) x divides few inside,
    )

-- which is no more than the bytes of both
pub cost_few : (bytes : List ℕ) (before here behind x : ℕ) → before ≤ here → here ≤ behind
    → standing_cost bytes before here behind x ≤ load bytes before here + load bytes here behind
cost_few bytes before here behind x ordered onward =
    let one : load bytes (max x before) here ≤ load bytes before here = elim (cases_lt here (max x before)) [
      | inl back ↦ omega (arith, load_back bytes (max x before) here (omega (arith, back)))
      | inr on ↦ load_wider bytes (max x before) here before here (omega arith) on (omega arith)
    ] in
    let other : load bytes here (min x behind) ≤ load bytes here behind = elim (cases_lt (min x behind) here) [
      | inl back ↦ omega (arith, load_back bytes here (min x behind) (omega (arith, back)))
      | inr on ↦ load_wider bytes here (min x behind) here behind (omega arith) on (omega arith)
    ] in
    omega (arith, one, other)

-- nor than all bytes
pub cost_within : (bytes : List ℕ) (before here behind x : ℕ) → before ≤ here → here ≤ behind → standing_cost bytes before here behind x ≤ sum bytes
cost_within bytes before here behind x ordered onward =
    omega (
      arith,
      cost_few bytes before here behind x ordered onward,
      load_split bytes before here ordered,
      load_split bytes here behind onward,
      load_split bytes before behind (omega arith),
      load_within bytes before behind (omega arith),
    )
