-- The runs of the elements that were seen, and one more element.
use Rattle.std.proofs.Common.{◌≡◌, ◌⊎◌, ℕ, zero, suc, ◌+◌, ◌-◌, ◌<◌, ◌≤◌, inl, inr, List, [], ◌∷◌, ◌++◌, length, slice_index, slice_index_or, arith, ap, sym, ◌∙◌, refl}
use Rattle.std.proofs.lemmas.Bool.{cases_lt, cases_eq}
use Rattle.std.proofs.lemmas.List.{get_or_append_left, get_or_default, get_or_past, get_or_push, length_push}
use Rattle.std.specs.List.{Contains}
use Rattle.chain_refinement.specs.Orders.{place_of}
use Rattle.chain_refinement.specs.NoOrders.{HasNoOrder}
use Rattle.chain_refinement.specs.Runs.{AreRuns, IsLast}
use Rattle.chain_refinement.proofs.PresentOrders.{no_order_apart}

-- no element was seen
pub runs_none : (sizes : List (ℕ × ℕ)) (pes : ℕ) → AreRuns sizes pes 0 [] []
runs_none sizes pes =
    record {
      counted = refl;
      first = refl;
      rises = λ b inside. absurd (omega arith);
      stands = λ b i inside. absurd (omega arith);
      below = λ b inside. absurd (omega arith);
      apart = λ a b before inside. absurd (omega arith);
    }

-- one more element of the last run
pub runs_same : (sizes : List (ℕ × ℕ)) (pes end : ℕ) (names starts : List ℕ) → AreRuns sizes pes end names starts → 0 < length names
    → place_of sizes end ≡ slice_index names (length names - 1) → AreRuns sizes pes (end + 1) names starts
runs_same sizes pes end names starts h some here =
    record {
      counted = h.counted;
      first = get_or_default starts 0 (end + 1) end (omega (arith, h.counted)) ∙ h.first;
      rises = λ b inside. elim (cases_lt (b + 1) (length names)) [
        | inl inner ↦ omega (arith, h.rises b inside, get_or_default starts (b + 1) (end + 1) end (omega (arith, h.counted)))
        | inr last ↦ omega (arith, h.rises b inside, get_or_past starts (b + 1) end (omega (arith, h.counted)), get_or_past starts (b + 1) (end + 1) (omega (arith, h.counted)))
      ];
      stands = λ b i inside low high. elim (cases_lt (b + 1) (length names)) [
        | inl inner ↦ h.stands b i inside low (omega (arith, high, get_or_default starts (b + 1) (end + 1) end (omega (arith, h.counted))))
        | inr last ↦ elim (cases_eq i end) [
          | inl new ↦
              let b_is : length names - 1 ≡ b = omega arith in
              ap (λ k. place_of sizes k) new ∙ here ∙ ap (λ k. slice_index names k) b_is
          | inr old ↦
              h.stands b i inside low (omega (
                arith,
                old,
                high,
                get_or_past starts (b + 1) end (omega (arith, h.counted)),
                get_or_past starts (b + 1) (end + 1) (omega (arith, h.counted)),
              ))
        ]
      ];
      below = h.below;
      apart = h.apart;
    }

-- where a run of the longer list ends
end_pushed : (starts : List ℕ) (b end : ℕ) → b < length starts → slice_index_or (starts ++ end ∷ []) (b + 1) (end + 1) ≡ slice_index_or starts (b + 1) end
end_pushed starts b end inside =
    elim (cases_lt (b + 1) (length starts)) [
      | inl inner ↦ get_or_append_left starts (end ∷ []) (end + 1) (b + 1) inner ∙ get_or_default starts (b + 1) (end + 1) end inner
      | inr last ↦ get_or_push starts end (end + 1) (b + 1) (omega arith) ∙ sym (get_or_past starts (b + 1) end (omega arith))
    ]

-- one more element, which begins a run
pub runs_push : (sizes : List (ℕ × ℕ)) (pes end : ℕ) (names starts : List ℕ) (place : ℕ) → AreRuns sizes pes end names starts
    → place_of sizes end ≡ place → place < pes → ¬ (Contains names place) → AreRuns sizes pes (end + 1) (names ++ place ∷ []) (starts ++ end ∷ [])
runs_push sizes pes end names starts place h here below new =
    let counted = length_push names place in
    let old_name : (b : ℕ) → b < length names → slice_index (names ++ place ∷ []) b ≡ slice_index names b = λ b inside. get_or_append_left names (place ∷ []) 0 b inside in
    let new_name : (b : ℕ) → b ≡ length names → slice_index (names ++ place ∷ []) b ≡ place = λ b last. get_or_push names place 0 b (sym last) in
    let old_start : (b : ℕ) → b < length names → slice_index (starts ++ end ∷ []) b ≡ slice_index starts b = λ b inside. get_or_append_left
    starts (end ∷ []) 0 b (omega (arith, h.counted)) in
    let new_start : (b : ℕ) → b ≡ length names → slice_index (starts ++ end ∷ []) b ≡ end = λ b last. get_or_push starts end 0 b (omega (arith, h.counted, last)) in
    let new_end : (b : ℕ) → b ≡ length names → slice_index_or (starts ++ end ∷ []) (b + 1) (end + 1) ≡ end + 1 = λ b last. get_or_past
    (starts ++ end ∷ []) (b + 1) (end + 1) (omega (arith, h.counted, last, length_push starts end)) in
    record {
      counted = omega (arith, counted, length_push starts end, h.counted);
      first = first;
      rises = λ b inside. elim (cases_lt b (length names)) [
        | inl old ↦ omega (arith, old_start b old, end_pushed starts b end (omega (arith, h.counted)), h.rises b old)
        | inr last ↦ omega (arith, new_start b (omega (arith, counted)), new_end b (omega (arith, counted)))
      ];
      stands = λ b i inside low high. elim (cases_lt b (length names)) [
        | inl old ↦ h.stands b i old (omega (arith, low, old_start b old)) (omega (arith, high, end_pushed starts b end (omega (arith, h.counted)))) ∙ sym (old_name b old)
        | inr last ↦
            let i_is : i ≡ end = omega (arith, low, high, new_start b (omega (arith, counted)), new_end b (omega (arith, counted))) in
            ap (λ k. place_of sizes k) i_is ∙ here ∙ sym (new_name b (omega (arith, counted)))
      ];
      below = λ b inside. elim (cases_lt b (length names)) [
        | inl old ↦ omega (arith, old_name b old, h.below b old)
        | inr last ↦ omega (arith, new_name b (omega (arith, counted)), below)
      ];
      apart = λ a b before inside. elim (cases_lt b (length names)) [
        | inl old ↦ λ same. h.apart a b before old (sym (old_name a (omega arith)) ∙ same ∙ old_name b old)
        | inr last ↦ λ same. new (
          a,
          omega (arith, counted),
          get_or_default names a place 0 (omega (arith, counted)) ∙ sym (old_name a (omega (arith, counted))) ∙ same ∙ new_name b (omega (arith, counted)),
        )
      ];
    }
  where
    first : slice_index_or (starts ++ end ∷ []) 0 (end + 1) ≡ 0
    first = elim (cases_lt 0 (length starts)) [
      | inl some ↦ get_or_append_left starts (end ∷ []) (end + 1) 0 some ∙ get_or_default starts 0 (end + 1) end some ∙ h.first
      | inr none ↦ get_or_push starts end (end + 1) 0 (omega arith) ∙ sym (get_or_past starts 0 end none) ∙ h.first
    ]

-- a run begins before the end; at most this number of runs are behind it
start_before : (sizes : List (ℕ × ℕ)) (pes end : ℕ) (names starts : List ℕ) (left b : ℕ) → AreRuns sizes pes end names starts
    → length names ≤ b + left → b < length names → slice_index starts b < end
start_before sizes pes end names starts zero b h few inside = absurd (omega arith)
start_before sizes pes end names starts (suc left) b h few inside =
    elim (cases_lt (b + 1) (length names)) [
      | inl inner ↦ omega (
        arith,
        h.rises b inside,
        get_or_default starts (b + 1) end 0 (omega (arith, h.counted)),
        start_before sizes pes end names starts left (b + 1) h (omega arith) inner,
      )
      | inr last ↦ omega (arith, h.rises b inside, get_or_past starts (b + 1) end (omega (arith, h.counted)))
    ]

-- where a PE has a second run, there is no order
pub no_order_twice : (sizes : List (ℕ × ℕ)) (pes end : ℕ) (names starts : List ℕ) → AreRuns sizes pes end names starts → end < length sizes
    → (IsLast names (place_of sizes end) → ⊥) → Contains names (place_of sizes end) → HasNoOrder sizes pes
no_order_twice sizes pes end names starts h inside other found =
    let place : ℕ = place_of sizes end in
    let b : ℕ = found.0 in
    let name : slice_index names b ≡ place = get_or_default names b 0 place found.1 ∙ found.2 in
    let next : b + 1 < length names = before_last name (cases_eq (b + 1) (length names)) in
    let next_start = get_or_default starts (b + 1) end 0 (omega (arith, h.counted)) in
    let begins = start_before sizes pes end names starts (length names) (b + 1) h (omega arith) next in
    no_order_apart sizes pes (slice_index starts b) (slice_index starts (b + 1)) end (omega (arith, h.rises b found.1, next_start)) (omega (arith, begins)) inside
    (h.stands b (slice_index starts b) found.1 (omega arith) (h.rises b found.1) ∙ name)
    (λ same. h.apart b (b + 1) (omega arith) next (name ∙ sym same ∙ h.stands (b + 1) (slice_index starts (b + 1)) next (omega arith) (h.rises (b + 1) next)))
  where
    before_last : slice_index names found.0 ≡ place_of sizes end → (found.0 + 1 ≡ length names) ⊎ (found.0 + 1 ≡ length names → ⊥) → found.0 + 1 < length names
    before_last name (inl last) =
        let b_is : length names - 1 ≡ found.0 = omega arith in
        absurd (other (omega (arith, found.1), ap (λ k. slice_index names k) b_is ∙ name))
    before_last name (inr inner) = omega (arith, inner, found.1)
