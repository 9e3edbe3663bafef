-- The PEs without elements, which follow those with elements.
use Rattle.std.proofs.Common.{◌≡◌, ◌≢◌, ℕ, ◌+◌, ◌<◌, ◌≤◌, inl, inr, List, [], ◌∷◌, ◌++◌, length, slice_index, slice_index_or, arith, sym, ◌∙◌, subst}
use Rattle.std.proofs.lemmas.Bool.{cases_lt, cases_eq}
use Rattle.std.proofs.lemmas.List.{get_or_append_left, get_or_default, get_or_past, get_or_push, length_push}
use Rattle.std.proofs.lemmas.List.Elements.{Contains-append_left, Contains-push}
use Rattle.std.proofs.lemmas.List.Sorted.{IsNonDecreasingBy-from_all_adjacent}
use Rattle.std.specs.List.{Contains}
use Rattle.chain_refinement.specs.Orders.{place_of, IsPresentOrder}
use Rattle.chain_refinement.specs.Runs.{AreRuns}
use Rattle.chain_refinement.proofs.Counts.{covers, few}

-- After the `busy` PEs with elements come idle ones in ascending order, each at the end; of the PEs before pe none is left out,
-- and none from pe on is an idle one.
pub record AreListed (sizes : List (ℕ × ℕ)) (pes end busy pe : ℕ) (names starts : List ℕ) : Type 0 where
  pub counted : length starts ≡ length names
  pub few : busy ≤ length names
  pub first : slice_index_or starts 0 end ≡ 0
  pub rises : (b : ℕ) → b < busy → slice_index starts b < slice_index_or starts (b + 1) end
  pub ends : (b : ℕ) → busy ≤ b → slice_index_or starts b end ≡ end
  pub stands : (b i : ℕ) → b < busy → slice_index starts b ≤ i → i < slice_index_or starts (b + 1) end → place_of sizes i ≡ slice_index names b
  pub below : (b : ℕ) → b < length names → slice_index names b < pes
  pub apart : (a b : ℕ) → a < b → b < length names → slice_index names a ≢ slice_index names b
  pub idle_below : (b : ℕ) → busy ≤ b → b < length names → slice_index names b < pe
  pub idle_rise : (b : ℕ) → busy ≤ b → b + 1 < length names → slice_index names b < slice_index names (b + 1)
  pub held : (q : ℕ) → q < pe → Contains names q

-- no idle PE is listed yet
pub listed_none : (sizes : List (ℕ × ℕ)) (pes end : ℕ) (names starts : List ℕ) → AreRuns sizes pes end names starts → AreListed sizes pes end (length names) 0 names starts
listed_none sizes pes end names starts h =
    record {
      counted = h.counted;
      few = omega arith;
      first = h.first;
      rises = h.rises;
      ends = λ b behind. get_or_past starts b end (omega (arith, h.counted));
      stands = h.stands;
      below = h.below;
      apart = h.apart;
      idle_below = λ b behind inside. absurd (omega arith);
      idle_rise = λ b behind inside. absurd (omega arith);
      held = λ q inside. absurd (omega arith);
    }

-- a PE that is listed already
pub listed_skip : (sizes : List (ℕ × ℕ)) (pes end busy pe : ℕ) (names starts : List ℕ) → AreListed sizes pes end busy pe names starts
    → Contains names pe → AreListed sizes pes end busy (pe + 1) names starts
listed_skip sizes pes end busy pe names starts h found =
    record {
      counted = h.counted;
      few = h.few;
      first = h.first;
      rises = h.rises;
      ends = h.ends;
      stands = h.stands;
      below = h.below;
      apart = h.apart;
      idle_below = λ b behind inside. omega (arith, h.idle_below b behind inside);
      idle_rise = h.idle_rise;
      held = λ q inside. elim (cases_lt q pe) [
        | inl before ↦ h.held q before
        | inr last ↦
            let same : pe ≡ q = omega arith in
            subst (λ p. Contains names p) same found
      ];
    }

-- an end that is added is what a read past the list gave already
end_added : (starts : List ℕ) (b end : ℕ) → slice_index_or (starts ++ end ∷ []) b end ≡ slice_index_or starts b end
end_added starts b end =
    elim (cases_lt b (length starts)) [
      | inl inner ↦ get_or_append_left starts (end ∷ []) end b inner
      | inr behind ↦ elim (cases_eq b (length starts)) [
        | inl last ↦ get_or_push starts end end b (sym last) ∙ sym (get_or_past starts b end behind)
        | inr past ↦ get_or_past (starts ++ end ∷ []) b end (omega (arith, past, length_push starts end)) ∙ sym (get_or_past starts b end behind)
      ]
    ]

-- a PE that is not listed yet
pub listed_push : (sizes : List (ℕ × ℕ)) (pes end busy pe : ℕ) (names starts : List ℕ) → AreListed sizes pes end busy pe names starts
    → pe < pes → (Contains names pe → ⊥) → AreListed sizes pes end busy (pe + 1) (names ++ pe ∷ []) (starts ++ end ∷ [])
listed_push sizes pes end busy pe names starts h inside_pes new =
    let counted = length_push names pe in
    let old_name : (b : ℕ) → b < length names → slice_index (names ++ pe ∷ []) b ≡ slice_index names b = λ b inside. get_or_append_left names (pe ∷ []) 0 b inside in
    let new_name : (b : ℕ) → b ≡ length names → slice_index (names ++ pe ∷ []) b ≡ pe = λ b last. get_or_push names pe 0 b (sym last) in
    let old_start : (b : ℕ) → b < busy → slice_index (starts ++ end ∷ []) b ≡ slice_index starts b = λ b inside. get_or_append_left starts
    (end ∷ []) 0 b (omega (arith, h.counted, h.few)) in
    record {
      counted = omega (arith, counted, length_push starts end, h.counted);
      few = omega (arith, counted, h.few);
      first = end_added starts 0 end ∙ h.first;
      rises = λ b inside. omega (arith, old_start b inside, end_added starts (b + 1) end, h.rises b inside);
      ends = λ b behind. end_added starts b end ∙ h.ends b behind;
      stands = λ b i inside low high. h.stands b i inside (omega (arith, low, old_start b inside))
          (omega (arith, high, end_added starts (b + 1) end)) ∙ sym (old_name b (omega (arith, h.few)));
      below = λ b inside. elim (cases_lt b (length names)) [
        | inl old ↦ omega (arith, old_name b old, h.below b old)
        | inr last ↦ omega (arith, new_name b (omega (arith, counted)), inside_pes)
      ];
      apart = λ a b before inside. elim (cases_lt b (length names)) [
        | inl old ↦ λ same. h.apart a b before old (sym (old_name a (omega arith)) ∙ same ∙ old_name b old)
        | inr last ↦ λ same. new (
          a,
          omega (arith, counted),
          get_or_default names a pe 0 (omega (arith, counted)) ∙ sym (old_name a (omega (arith, counted))) ∙ same ∙ new_name b (omega (arith, counted)),
        )
      ];
      idle_below = λ b behind inside. elim (cases_lt b (length names)) [
        | inl old ↦ omega (arith, old_name b old, h.idle_below b behind old)
        | inr last ↦ omega (arith, new_name b (omega (arith, counted)))
      ];
      idle_rise = λ b behind inside. elim (cases_lt (b + 1) (length names)) [
        | inl old ↦ omega (arith, old_name b (omega arith), old_name (b + 1) old, h.idle_rise b behind old)
        | inr last ↦ omega (arith, old_name b (omega (arith, counted)), new_name (b + 1) (omega (arith, counted)), h.idle_below b behind (omega (arith, counted)))
      ];
      held = λ q inside. elim (cases_lt q pe) [
        | inl before ↦ Contains-append_left names (pe ∷ []) q (h.held q before)
        | inr last ↦
            let same : pe ≡ q = omega arith in
            subst (λ p. Contains (names ++ pe ∷ []) p) same (Contains-push names pe)
      ];
    }

-- each PE is listed
pub listed_all : (sizes : List (ℕ × ℕ)) (pes end busy : ℕ) (names starts : List ℕ) → AreListed sizes pes end busy pes names starts
    → end ≡ length sizes → IsPresentOrder sizes pes names (starts ++ end ∷ [])
listed_all sizes pes end busy names starts h whole =
    record {
      naming = record { counted = counted; below = λ b inside. h.below b (omega (arith, counted)); apart = λ a b before inside. h.apart a b before (omega (arith, counted)) };
      in_order = record {
        divides = record {
          counted = omega (arith, length_push starts end, h.counted);
          starts = cut 0 (omega arith) ∙ h.first;
          ordered = IsNonDecreasingBy-from_all_adjacent (λ x. x) (starts ++ end ∷ []) (λ k d inside. omega (
            arith,
            get_or_default (starts ++ end ∷ []) k d 0 (omega arith),
            get_or_default (starts ++ end ∷ []) (k + 1) d 0 inside,
            onward k (omega (arith, length_push starts end)),
          ));
          ends = cut (length names) (omega (arith, h.counted)) ∙ get_or_past starts (length names) end (omega (arith, h.counted)) ∙ whole;
        };
        stands = λ b i inside low high. elim (cases_lt b busy) [
          | inl inner ↦ h.stands b i inner (omega (
            arith,
            low,
            cut b (omega (arith, h.counted)),
            get_or_default starts b end 0 (omega (arith, h.counted)),
          )) (omega (arith, high, cut (b + 1) (omega (arith, h.counted))))
          | inr idle ↦ absurd (omega (arith, low, high, cut b (omega (arith, h.counted)), cut (b + 1) (omega (arith, h.counted)), h.ends b idle, h.ends (b + 1) (omega arith)))
        ];
      };
      idle_last = λ b inside same. elim (cases_lt b busy) [
        | inl inner ↦ absurd (busy_apart b inner same)
        | inr idle ↦ omega (
          arith,
          counted,
          cut (b + 1) (omega (arith, counted, h.counted)),
          cut (b + 1 + 1) (omega (arith, counted, h.counted)),
          h.ends (b + 1) (omega arith),
          h.ends (b + 1 + 1) (omega arith),
        )
      ];
      idle_rise = λ b inside same. elim (cases_lt b busy) [
        | inl inner ↦ absurd (busy_apart b inner same)
        | inr idle ↦ h.idle_rise b idle (omega (arith, counted))
      ];
    }
  where
    counted : length names ≡ pes
    counted = omega (arith, few names pes h.below h.apart, covers names pes h.held)

    cut : (b : ℕ) → b ≤ length starts → slice_index (starts ++ end ∷ []) b ≡ slice_index_or starts b end
    cut b inside = get_or_default (starts ++ end ∷ []) b 0 end (omega (arith, length_push starts end)) ∙ end_added starts b end

    busy_rises : (b : ℕ) → b < busy → slice_index (starts ++ end ∷ []) b < slice_index (starts ++ end ∷ []) (b + 1)
    busy_rises b inner = omega (
      arith,
      cut b (omega (arith, h.counted, h.few)),
      cut (b + 1) (omega (arith, h.counted, h.few)),
      get_or_default starts b end 0 (omega (arith, h.counted, h.few)),
      h.rises b inner,
    )

    busy_apart : (b : ℕ) → b < busy → slice_index (starts ++ end ∷ []) b ≡ slice_index (starts ++ end ∷ []) (b + 1) → ⊥
    busy_apart b inner same = omega (arith, busy_rises b inner, same)

    onward : (b : ℕ) → b < length starts → slice_index (starts ++ end ∷ []) b ≤ slice_index (starts ++ end ∷ []) (b + 1)
    onward b inside = elim (cases_lt b busy) [
      | inl inner ↦ omega (arith, busy_rises b inner)
      | inr idle ↦ omega (arith, cut b (omega arith), cut (b + 1) (omega arith), h.ends b idle, h.ends (b + 1) (omega arith))
    ]
