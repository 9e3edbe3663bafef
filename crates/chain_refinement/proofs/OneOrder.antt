-- There is one present order of the PEs.
use Rattle.std.proofs.Common.{◌≡◌, ℕ, zero, suc, ◌+◌, ◌-◌, ◌<◌, ◌≤◌, inl, inr, List, length, slice_index, arith, ap, sym, ◌∙◌, subst, add-one}
use Rattle.std.proofs.lemmas.Bool.{cases_lt, cases_order}
use Rattle.std.proofs.lemmas.List.{ext_get_or}
use Rattle.chain_refinement.specs.Orders.{place_of, IsPresentOrder}
use Rattle.chain_refinement.proofs.Counts.{held}
use Rattle.chain_refinement.proofs.PresentOrders.{block_at, same_block}

-- what an order says, at its cuts
cut_ordered : (sizes : List (ℕ × ℕ)) (pes : ℕ) (names present : List ℕ) → IsPresentOrder sizes pes names present → (a b : ℕ) → a ≤ b
    → b ≤ pes → slice_index present a ≤ slice_index present b
cut_ordered sizes pes names present h a b before inside =
    h.in_order.divides.ordered a b 0 before (omega (arith, h.in_order.divides.counted, h.naming.counted))

last_cut : (sizes : List (ℕ × ℕ)) (pes : ℕ) (names present : List ℕ) → IsPresentOrder sizes pes names present → slice_index present pes ≡ length sizes
last_cut sizes pes names present h = ap (λ n. slice_index present n) (sym h.naming.counted) ∙ h.in_order.divides.ends

-- from a PE without elements on, each cut is the same
idle_onward : (sizes : List (ℕ × ℕ)) (pes : ℕ) (names present : List ℕ) → IsPresentOrder sizes pes names present → (b k : ℕ) → b + k < pes
    → slice_index present b ≡ slice_index present (b + 1) → slice_index present (b + k) ≡ slice_index present (b + k + 1)
idle_onward sizes pes names present h b zero inside same =
    let here : b ≡ b + 0 = omega arith in
    subst (λ n. slice_index present n ≡ slice_index present (n + 1)) here same
idle_onward sizes pes names present h b (suc k) inside same =
    let before : slice_index present (b + k) ≡ slice_index present (b + k + 1) = idle_onward sizes pes names present h b k (omega arith) same in
    let next : slice_index present (b + k + 1) ≡ slice_index present (b + k + 1 + 1) = h.idle_last (b + k) (omega arith) before in
    let here : b + k + 1 ≡ b + suc k = omega arith in
    subst (λ n. slice_index present n ≡ slice_index present (n + 1)) here next

-- and is the end of the chain
idle_at_end : (sizes : List (ℕ × ℕ)) (pes : ℕ) (names present : List ℕ) → IsPresentOrder sizes pes names present → (b k : ℕ) → b + k ≤ pes
    → slice_index present b ≡ slice_index present (b + 1) → slice_index present (b + k) ≡ slice_index present b
idle_at_end sizes pes names present h b zero inside same =
    let here : b + 0 ≡ b = omega arith in
    ap (λ n. slice_index present n) here
idle_at_end sizes pes names present h b (suc k) inside same =
    let next : b + suc k ≡ b + k + 1 = omega arith in
    ap (λ n. slice_index present n) next ∙ sym (idle_onward sizes pes names present h b k (omega arith) same) ∙ idle_at_end sizes pes names present h b k (omega arith) same

-- a PE whose elements begin before the end of the chain has some
busy_rises : (sizes : List (ℕ × ℕ)) (pes : ℕ) (names present : List ℕ) → IsPresentOrder sizes pes names present → (b : ℕ) → b < pes
    → slice_index present b < length sizes → slice_index present b < slice_index present (b + 1)
busy_rises sizes pes names present h b inside before =
    elim (cases_lt (slice_index present b) (slice_index present (b + 1))) [
      | inl rises ↦ rises
      | inr flat ↦
          let same : slice_index present b ≡ slice_index present (b + 1) = omega (arith, flat, cut_ordered sizes pes names present h b (b + 1) (omega arith) (omega arith)) in
          let all : b + (pes - b) ≡ pes = omega arith in
          absurd (omega (
            arith,
            before,
            last_cut sizes pes names present h,
            idle_at_end sizes pes names present h b (pes - b) (omega arith) same,
            ap (λ n. slice_index present n) all,
          ))
    ]

-- its first element is on it
busy_name : (sizes : List (ℕ × ℕ)) (pes : ℕ) (names present : List ℕ) → IsPresentOrder sizes pes names present → (b : ℕ) → b < pes
    → slice_index present b < length sizes → place_of sizes (slice_index present b) ≡ slice_index names b
busy_name sizes pes names present h b inside before =
    h.in_order.stands b (slice_index present b) (omega (arith, h.naming.counted)) (omega arith) (busy_rises sizes pes names present h b inside before)

-- where the elements of a PE begin at the same place in two orders, it is the same PE
same_name : (sizes : List (ℕ × ℕ)) (pes : ℕ) (names present others cuts : List ℕ) → IsPresentOrder sizes pes names present
    → IsPresentOrder sizes pes others cuts → (b : ℕ) → b < pes → slice_index present b ≡ slice_index cuts b
    → slice_index present b < length sizes → slice_index names b ≡ slice_index others b
same_name sizes pes names present others cuts h o b inside same before =
    sym (busy_name sizes pes names present h b inside before) ∙ ap (λ i. place_of sizes i) same ∙ busy_name sizes pes others cuts o b inside (omega (arith, same, before))

-- and they end no later in the one than in the other
no_later : (sizes : List (ℕ × ℕ)) (pes : ℕ) (names present others cuts : List ℕ) → IsPresentOrder sizes pes names present
    → IsPresentOrder sizes pes others cuts → (b : ℕ) → b < pes → slice_index present b ≡ slice_index cuts b
    → slice_index present b < length sizes → slice_index cuts (b + 1) ≤ slice_index present (b + 1)
no_later sizes pes names present others cuts h o b inside same before =
    elim (cases_lt (slice_index present (b + 1)) (slice_index cuts (b + 1))) [
      | inr late ↦ late
      | inl shorter ↦
          let x : ℕ = slice_index present (b + 1) in
          let within : x < length sizes = omega (arith, shorter, last_cut sizes pes others cuts o, cut_ordered sizes pes others cuts o (b + 1) pes (omega arith) (omega arith)) in
          let at = block_at (length sizes) (length names) present x h.in_order.divides within in
          let here : place_of sizes x ≡ slice_index names at.0 = h.in_order.stands at.0 x at.1 at.2 at.3 in
          let there : place_of sizes x ≡ slice_index others b = o.in_order.stands b x (omega (arith, o.naming.counted))
          (omega (arith, same, cut_ordered sizes pes names present h b (b + 1) (omega arith) (omega arith))) shorter in
          let block : at.0 ≡ b = same_block pes names at.0 b h.naming (omega (arith, at.1, h.naming.counted)) inside
          (sym here ∙ there ∙ sym (same_name sizes pes names present others cuts h o b inside same before)) in
          absurd (omega (arith, at.3, ap (λ n. slice_index present (n + 1)) block))
    ]

-- two orders have the same cuts
same_cuts : (sizes : List (ℕ × ℕ)) (pes : ℕ) (names present others cuts : List ℕ) → IsPresentOrder sizes pes names present
    → IsPresentOrder sizes pes others cuts → (b : ℕ) → b ≤ pes → slice_index present b ≡ slice_index cuts b
same_cuts sizes pes names present others cuts h o zero inside =
    h.in_order.divides.starts ∙ sym o.in_order.divides.starts
same_cuts sizes pes names present others cuts h o (suc b) inside =
    let same : slice_index present b ≡ slice_index cuts b = same_cuts sizes pes names present others cuts h o b (omega arith) in
    rw (← add-one b) (elim (cases_lt (slice_index present b) (length sizes)) [
      | inl busy ↦ omega (
        arith,
        no_later sizes pes names present others cuts h o b (omega arith) same busy,
        no_later sizes pes others cuts names present o h b (omega arith) (sym same) (omega (arith, same, busy)),
      )
      | inr idle ↦ omega (
        arith,
        same,
        cut_ordered sizes pes names present h b (b + 1) (omega arith) (omega arith),
        cut_ordered sizes pes names present h (b + 1) pes (omega arith) (omega arith),
        cut_ordered sizes pes others cuts o b (b + 1) (omega arith) (omega arith),
        cut_ordered sizes pes others cuts o (b + 1) pes (omega arith) (omega arith),
        last_cut sizes pes names present h,
        last_cut sizes pes others cuts o,
      )
    ])

-- the PEs behind one without elements are greater
idle_ascend : (sizes : List (ℕ × ℕ)) (pes : ℕ) (names present : List ℕ) → IsPresentOrder sizes pes names present → (b k : ℕ) → b + k < pes
    → length sizes ≤ slice_index present b → slice_index names b ≤ slice_index names (b + k)
idle_ascend sizes pes names present h b zero inside idle =
    let here : b + 0 ≡ b = omega arith in
    omega (arith, ap (λ n. slice_index names n) here)
idle_ascend sizes pes names present h b (suc k) inside idle =
    let next : b + suc k ≡ b + k + 1 = omega arith in
    let flat : slice_index present (b + k) ≡ slice_index present (b + k + 1) = omega (
      arith,
      idle,
      cut_ordered sizes pes names present h b (b + k) (omega arith) (omega arith),
      cut_ordered sizes pes names present h (b + k) (b + k + 1) (omega arith) (omega arith),
      cut_ordered sizes pes names present h (b + k + 1) pes (omega arith) (omega arith),
      last_cut sizes pes names present h,
    ) in
    omega (arith, ap (λ n. slice_index names n) next, h.idle_rise (b + k) (omega arith) flat, idle_ascend sizes pes names present h b k (omega arith) idle)

-- a PE without elements is not less in another order with the same PEs before it
no_lesser : (sizes : List (ℕ × ℕ)) (pes : ℕ) (names present others cuts : List ℕ) → IsPresentOrder sizes pes names present
    → IsPresentOrder sizes pes others cuts → (b : ℕ) → b < pes → length sizes ≤ slice_index cuts b
    → ((k : ℕ) → k < b → slice_index names k ≡ slice_index others k) → slice_index names b < slice_index others b → ⊥
no_lesser sizes pes names present others cuts h o b inside idle before less =
    let at = held pes others (slice_index names b) o.naming (h.naming.below b inside) in
    elim (cases_lt at.0 b) [
      | inl earlier ↦
          let block : at.0 ≡ b = same_block pes names at.0 b h.naming at.1 inside (before at.0 earlier ∙ at.2) in
          omega (arith, earlier, block)
      | inr later ↦
          let place : b + (at.0 - b) ≡ at.0 = omega arith in
          omega (arith, less, at.2, idle_ascend sizes pes others cuts o b (at.0 - b) (omega (arith, at.1)) idle, ap (λ n. slice_index others n) place)
    ]

-- two orders have the same PEs at the first n places
same_names : (sizes : List (ℕ × ℕ)) (pes : ℕ) (names present others cuts : List ℕ) → IsPresentOrder sizes pes names present
    → IsPresentOrder sizes pes others cuts → (n b : ℕ) → b < n → b < pes → slice_index names b ≡ slice_index others b
same_names sizes pes names present others cuts h o zero b before inside = absurd (omega arith)
same_names sizes pes names present others cuts h o (suc n) b before inside =
    let earlier : (k : ℕ) → k < b → slice_index names k ≡ slice_index others k = λ k less. same_names sizes pes names present others cuts h o n k (omega arith) (omega arith) in
    let same : slice_index present b ≡ slice_index cuts b = same_cuts sizes pes names present others cuts h o b (omega arith) in
    elim (cases_lt (slice_index present b) (length sizes)) [
      | inl busy ↦ same_name sizes pes names present others cuts h o b inside same busy
      | inr idle ↦ elim (cases_order (slice_index names b) (slice_index others b)) [
        | inl here ↦ here
        | inr (inl less) ↦ absurd (no_lesser sizes pes names present others cuts h o b inside (omega (arith, idle, same)) earlier less)
        | inr (inr more) ↦ absurd (no_lesser sizes pes others cuts names present o h b inside idle (λ k less. sym (earlier k less)) more)
      ]
    ]

pub one_order : (sizes : List (ℕ × ℕ)) (pes : ℕ) (names present others cuts : List ℕ) → IsPresentOrder sizes pes names present
    → IsPresentOrder sizes pes others cuts → (names ≡ others) × (present ≡ cuts)
one_order sizes pes names present others cuts h o = (
  ext_get_or 0 names others (h.naming.counted ∙ sym o.naming.counted)
      (λ b inside. same_names sizes pes names present others cuts h o pes b (omega (arith, h.naming.counted)) (omega (arith, h.naming.counted))),
  ext_get_or 0 present cuts (omega (arith, h.in_order.divides.counted, o.in_order.divides.counted, h.naming.counted, o.naming.counted))
      (λ b inside. same_cuts sizes pes names present others cuts h o b (omega (arith, h.in_order.divides.counted, h.naming.counted))),
)
