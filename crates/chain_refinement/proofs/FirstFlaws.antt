-- Which flaw of a refinement is the first, and that a right refinement has none.
use Rattle.std.proofs.Common.{◌≡◌, ◌≢◌, ◌⊎◌, inl, inr, ℕ, ◌+◌, ◌-◌, ◌<◌, ◌≤◌, List, length, slice_index, arith, refl, subst, sym, ◌∙◌}
use Rattle.chare_index.specs.declared.limits.TheConstants.Limits.{PES}
use Rattle.lb_certificates.specs.declared.flaw.Flaw.{Flaw}
use Rattle.lb_certificates.specs.Certificate.{IsCertified, NoneAbove}
use Rattle.lb_certificates.specs.Chain.{IsDivision}
use Rattle.lb_certificates.specs.Flaws.{AreApart, flaw_number, flaw_place, HasFlaw, IsBefore, IsFirst, Repeats}
use Rattle.lb_certificates.proofs.NoFlaws.{flawless}
use Rattle.chain_refinement.specs.declared.flaw.RefinementFlaw.{RefinementFlaw}
use Rattle.chain_refinement.specs.declared.flaw.RefinementFlaw.TheVariants.{Least, PeCount, NameCount, NameRange, NameTwice, CutCount, NoDivision, Heavy, HeightCount, HeightStart, Steep, HeightLow}
use Rattle.chain_refinement.specs.declared.refinement.Refinement.{Refinement}
use Rattle.chain_refinement.specs.Flaws.{EndsLow, HasRefinementFlaw, IsFirstRefinementFlaw, refinement_flaw_number, refinement_flaw_place}
use Rattle.chain_refinement.specs.Internal.{AreGentle, AreOrdered, claim_of, IsFirstHeavy, IsFirstSteep}
use Rattle.chain_refinement.specs.Refinement.{AreWithin, cut_cost, height_at, IsRefinement, refined_limit}
use Rattle.chain_refinement.proofs.FlawNumbers.{division_flaw}

-- all that is looked at before the flaws with number n is right
pub record AreRightBefore {A : Type 0} (loads : List ℕ) (sizes : List (ℕ × ℕ)) (pes : ℕ) (r : Refinement A) (n : ℕ) : Type 0 where
  pub least : IsCertified loads pes r.least
  pub some_pe : 20 < n → 0 < pes
  pub few_pes : 20 < n → pes ≤ PES
  pub named : 21 < n → length r.order ≡ pes
  pub below : 22 < n → (b : ℕ) → b < length r.order → slice_index r.order b < pes
  pub apart : 23 < n → AreApart r.order
  pub cut : 24 < n → length r.cuts ≡ pes + 1
  pub divides : 25 < n → IsDivision 0 (length loads) pes r.cuts
  pub light : 26 < n → NoneAbove loads pes (refined_limit r) r.cuts
  pub counted : 27 < n → length r.heights ≡ pes
  pub starts : 28 < n → height_at r.heights 0 0 ≡ 0
  pub gentle : 29 < n → AreGentle (claim_of loads sizes r) (pes - 1)

-- so none of the flaws with a lower number applies
nothing_before : {A : Type 0} (loads : List ℕ) (sizes : List (ℕ × ℕ)) (pes : ℕ) (r : Refinement A) (n : ℕ)
    → AreRightBefore loads sizes pes r n → n ≤ 30 → (other : RefinementFlaw) → refinement_flaw_number other < n → ¬ (HasRefinementFlaw loads sizes pes r other)
nothing_before loads sizes pes r n right few (Least flaw) h flawed = flawless loads pes r.least right.least flaw flawed
nothing_before loads sizes pes r n right few PeCount h (inl none) = absurd (omega (arith, none, right.some_pe h))
nothing_before loads sizes pes r n right few PeCount h (inr many) = absurd (omega (arith, many, right.few_pes h))
nothing_before loads sizes pes r n right few NameCount h flawed = flawed (right.named h)
nothing_before loads sizes pes r n right few NameRange h (b, inside, past) =
    absurd (omega (arith, past, right.below h b inside))
nothing_before loads sizes pes r n right few NameTwice h (i, j, before, inside, same) = right.apart h i j before inside same
nothing_before loads sizes pes r n right few CutCount h flawed = flawed (right.cut h)
nothing_before loads sizes pes r n right few NoDivision h flawed = flawed (right.divides h)
nothing_before loads sizes pes r n right few (Heavy b) h (inside, heavy) =
    absurd (omega (arith, heavy, right.light h b inside))
nothing_before loads sizes pes r n right few HeightCount h flawed = flawed (right.counted h)
nothing_before loads sizes pes r n right few HeightStart h flawed = flawed (right.starts h)
nothing_before loads sizes pes r n right few (Steep b x) h (inside, (y, before, within, light, high)) =
    absurd (omega (arith, high, right.gentle h b (omega arith) x (omega arith) within y before light))
nothing_before loads sizes pes r n right few HeightLow h flawed = absurd (omega (arith, h, few))

-- a flaw that names no place is the first where none of a lower number applies
first_by_number : (applies : RefinementFlaw → Type 0) (flaw : RefinementFlaw) → refinement_flaw_place flaw ≡ (0, 0) → applies flaw
    → ((other : RefinementFlaw) → refinement_flaw_number other < refinement_flaw_number flaw → ¬ (applies other)) → IsFirstRefinementFlaw applies flaw
first_by_number applies flaw e flawed lower =
    record {
      applies_itself = flawed;
      no_lower_number = lower;
      no_lower_place = λ other same earlier found. not_before (refinement_flaw_place other) (subst (IsBefore (refinement_flaw_place other)) e earlier);
    }
  where
    not_before : (place : ℕ × ℕ) → ¬ (IsBefore place (0, 0))
    not_before place (inl lower) = absurd (omega (arith, lower))
    not_before place (inr tied) = absurd (omega (arith, tied.1))

-- the first flaw of the division is the first of all
pub least_is_first : {A : Type 0} (loads : List ℕ) (sizes : List (ℕ × ℕ)) (pes : ℕ) (r : Refinement A) (flaw : Flaw)
    → IsFirst (HasFlaw loads pes r.least) flaw → IsFirstRefinementFlaw (HasRefinementFlaw loads sizes pes r) (Least flaw)
least_is_first {A} loads sizes pes r flaw first =
    record { applies_itself = first.applies_itself; no_lower_number = lower; no_lower_place = earlier }
  where
    lower : (other : RefinementFlaw) → refinement_flaw_number other < flaw_number flaw → ¬ (HasRefinementFlaw loads sizes pes r other)
    lower (Least other) h flawed = first.no_lower_number other h flawed
    lower _ h flawed = absurd (omega (arith, h, division_flaw flaw))

    earlier : (other : RefinementFlaw) → refinement_flaw_number other ≡ flaw_number flaw
        → IsBefore (refinement_flaw_place other) (flaw_place flaw) → ¬ (HasRefinementFlaw loads sizes pes r other)
    earlier (Least other) same before flawed = first.no_lower_place other same before flawed
    earlier _ same before flawed = absurd (omega (arith, same, division_flaw flaw))

-- each flaw of the order is the first, where all that is looked at before it is right
pub pe_count_is_first : {A : Type 0} (loads : List ℕ) (sizes : List (ℕ × ℕ)) (pes : ℕ) (r : Refinement A) → IsCertified loads pes r.least
    → (pes ≡ 0) ⊎ (PES < pes) → IsFirstRefinementFlaw (HasRefinementFlaw loads sizes pes r) PeCount
pe_count_is_first loads sizes pes r least wrong =
    first_by_number (HasRefinementFlaw loads sizes pes r) PeCount refl wrong (nothing_before loads sizes pes r 20 (record {
      least = least;
      some_pe = λ h. absurd (omega (arith, h));
      few_pes = λ h. absurd (omega (arith, h));
      named = λ h. absurd (omega (arith, h));
      below = λ h. absurd (omega (arith, h));
      apart = λ h. absurd (omega (arith, h));
      cut = λ h. absurd (omega (arith, h));
      divides = λ h. absurd (omega (arith, h));
      light = λ h. absurd (omega (arith, h));
      counted = λ h. absurd (omega (arith, h));
      starts = λ h. absurd (omega (arith, h));
      gentle = λ h. absurd (omega (arith, h));
    }) (omega arith))

right_to_names : {A : Type 0} (loads : List ℕ) (sizes : List (ℕ × ℕ)) (pes : ℕ) (r : Refinement A) (n : ℕ) → n ≤ 23
    → IsCertified loads pes r.least → 0 < pes → pes ≤ PES → (21 < n → length r.order ≡ pes)
    → (22 < n → (b : ℕ) → b < length r.order → slice_index r.order b < pes) → AreRightBefore loads sizes pes r n
right_to_names loads sizes pes r n few least some_pe few_pes named below =
    record {
      least = least;
      some_pe = λ _. some_pe;
      few_pes = λ _. few_pes;
      named = named;
      below = below;
      apart = λ h. absurd (omega (arith, h));
      cut = λ h. absurd (omega (arith, h));
      divides = λ h. absurd (omega (arith, h));
      light = λ h. absurd (omega (arith, h));
      counted = λ h. absurd (omega (arith, h));
      starts = λ h. absurd (omega (arith, h));
      gentle = λ h. absurd (omega (arith, h));
    }

pub name_count_is_first : {A : Type 0} (loads : List ℕ) (sizes : List (ℕ × ℕ)) (pes : ℕ) (r : Refinement A) → IsCertified loads pes r.least
    → 0 < pes → pes ≤ PES → length r.order ≢ pes → IsFirstRefinementFlaw (HasRefinementFlaw loads sizes pes r) NameCount
name_count_is_first loads sizes pes r least some few wrong =
    let right = right_to_names loads sizes pes r 21 (omega arith) least some few (λ h. absurd (omega (arith, h))) (λ h. absurd (omega (arith, h))) in
    first_by_number (HasRefinementFlaw loads sizes pes r) NameCount refl wrong (nothing_before loads sizes pes r 21 right (omega arith))

pub name_range_is_first : {A : Type 0} (loads : List ℕ) (sizes : List (ℕ × ℕ)) (pes : ℕ) (r : Refinement A) → IsCertified loads pes r.least
    → 0 < pes → pes ≤ PES → length r.order ≡ pes → (b : ℕ) × (b < length r.order) × (pes ≤ slice_index r.order b)
    → IsFirstRefinementFlaw (HasRefinementFlaw loads sizes pes r) NameRange
name_range_is_first loads sizes pes r least some few named wrong =
    let right = right_to_names loads sizes pes r 22 (omega arith) least some few (λ _. named) (λ h. absurd (omega (arith, h))) in
    first_by_number (HasRefinementFlaw loads sizes pes r) NameRange refl wrong (nothing_before loads sizes pes r 22 right (omega arith))

pub name_twice_is_first : {A : Type 0} (loads : List ℕ) (sizes : List (ℕ × ℕ)) (pes : ℕ) (r : Refinement A) → IsCertified loads pes r.least
    → 0 < pes → pes ≤ PES → length r.order ≡ pes → ((b : ℕ) → b < length r.order → slice_index r.order b < pes) → Repeats r.order
    → IsFirstRefinementFlaw (HasRefinementFlaw loads sizes pes r) NameTwice
name_twice_is_first loads sizes pes r least some few named below wrong =
    let right = right_to_names loads sizes pes r 23 (omega arith) least some few (λ _. named) (λ _. below) in
    first_by_number (HasRefinementFlaw loads sizes pes r) NameTwice refl wrong (nothing_before loads sizes pes r 23 right (omega arith))

right_to_cuts : {A : Type 0} (loads : List ℕ) (sizes : List (ℕ × ℕ)) (pes : ℕ) (r : Refinement A) (n : ℕ) → n ≤ 26
    → IsCertified loads pes r.least → AreOrdered pes r.order → (24 < n → length r.cuts ≡ pes + 1)
    → (25 < n → IsDivision 0 (length loads) pes r.cuts) → AreRightBefore loads sizes pes r n
right_to_cuts loads sizes pes r n few least order cut divides =
    record {
      least = least;
      some_pe = λ _. order.some_pe;
      few_pes = λ _. order.few_pes;
      named = λ _. order.naming.counted;
      below = λ _ b inside. order.naming.below b (omega (arith, order.naming.counted));
      apart = λ _ i j before inside. order.naming.apart i j before (omega (arith, order.naming.counted));
      cut = cut;
      divides = divides;
      light = λ h. absurd (omega (arith, h));
      counted = λ h. absurd (omega (arith, h));
      starts = λ h. absurd (omega (arith, h));
      gentle = λ h. absurd (omega (arith, h));
    }

-- each flaw of the cuts
pub cut_count_is_first : {A : Type 0} (loads : List ℕ) (sizes : List (ℕ × ℕ)) (pes : ℕ) (r : Refinement A) → IsCertified loads pes r.least
    → AreOrdered pes r.order → length r.cuts ≢ pes + 1 → IsFirstRefinementFlaw (HasRefinementFlaw loads sizes pes r) CutCount
cut_count_is_first loads sizes pes r least order wrong =
    let right = right_to_cuts loads sizes pes r 24 (omega arith) least order (λ h. absurd (omega (arith, h))) (λ h. absurd (omega (arith, h))) in
    first_by_number (HasRefinementFlaw loads sizes pes r) CutCount refl wrong (nothing_before loads sizes pes r 24 right (omega arith))

pub no_division_is_first : {A : Type 0} (loads : List ℕ) (sizes : List (ℕ × ℕ)) (pes : ℕ) (r : Refinement A) → IsCertified loads pes r.least
    → AreOrdered pes r.order → length r.cuts ≡ pes + 1 → ¬ (IsDivision 0 (length loads) pes r.cuts)
    → IsFirstRefinementFlaw (HasRefinementFlaw loads sizes pes r) NoDivision
no_division_is_first loads sizes pes r least order cut wrong =
    let right = right_to_cuts loads sizes pes r 25 (omega arith) least order (λ _. cut) (λ h. absurd (omega (arith, h))) in
    first_by_number (HasRefinementFlaw loads sizes pes r) NoDivision refl wrong (nothing_before loads sizes pes r 25 right (omega arith))

pub heavy_is_first : {A : Type 0} (loads : List ℕ) (sizes : List (ℕ × ℕ)) (pes : ℕ) (r : Refinement A) (b : ℕ)
    → IsCertified loads pes r.least → AreOrdered pes r.order → IsDivision 0 (length loads) pes r.cuts
    → IsFirstHeavy loads pes (refined_limit r) r.cuts b → IsFirstRefinementFlaw (HasRefinementFlaw loads sizes pes r) (Heavy b)
heavy_is_first {A} loads sizes pes r b least order divides first =
    let right = right_to_cuts loads sizes pes r 26 (omega arith) least order (λ _. divides.counted) (λ _. divides) in
    record {
      applies_itself = (first.inside, first.heavy);
      no_lower_number = nothing_before loads sizes pes r 26 right (omega arith);
      no_lower_place = earlier;
    }
  where
    earlier : (other : RefinementFlaw) → refinement_flaw_number other ≡ 26 → IsBefore (refinement_flaw_place other) (b, 0) → ¬ (HasRefinementFlaw loads sizes pes r other)
    earlier (Heavy k) same (inl lower) flawed = absurd (omega (arith, flawed.1, first.earlier k lower))
    earlier (Heavy k) same (inr tied) flawed = absurd (omega (arith, tied.1))
    earlier (Least flaw) same before flawed = absurd (omega (arith, same, division_flaw flaw))
    earlier _ same before flawed = absurd (omega (arith, same))

right_to_heights : {A : Type 0} (loads : List ℕ) (sizes : List (ℕ × ℕ)) (pes : ℕ) (r : Refinement A) (n : ℕ) → n ≤ 30
    → IsCertified loads pes r.least → AreOrdered pes r.order → AreWithin loads r.order (refined_limit r) r.cuts
    → (27 < n → length r.heights ≡ pes) → (28 < n → height_at r.heights 0 0 ≡ 0) → (29 < n → AreGentle (claim_of loads sizes r) (pes - 1))
    → AreRightBefore loads sizes pes r n
right_to_heights loads sizes pes r n few least order within counted starts gentle =
    let divides : IsDivision 0 (length loads) pes r.cuts = subst (λ blocks. IsDivision 0 (length loads) blocks r.cuts) order.naming.counted within.divides in
    record {
      least = least;
      some_pe = λ _. order.some_pe;
      few_pes = λ _. order.few_pes;
      named = λ _. order.naming.counted;
      below = λ _ b inside. order.naming.below b (omega (arith, order.naming.counted));
      apart = λ _ i j before inside. order.naming.apart i j before (omega (arith, order.naming.counted));
      cut = λ _. divides.counted;
      divides = λ _. divides;
      light = λ _ b inside. within.within b (omega (arith, order.naming.counted));
      counted = counted;
      starts = starts;
      gentle = gentle;
    }

-- each flaw of the heights
pub height_count_is_first : {A : Type 0} (loads : List ℕ) (sizes : List (ℕ × ℕ)) (pes : ℕ) (r : Refinement A)
    → IsCertified loads pes r.least → AreOrdered pes r.order → AreWithin loads r.order (refined_limit r) r.cuts → length r.heights ≢ pes
    → IsFirstRefinementFlaw (HasRefinementFlaw loads sizes pes r) HeightCount
height_count_is_first loads sizes pes r least order within wrong =
    let right = right_to_heights loads sizes pes r 27 (omega arith) least order within (λ h. absurd (omega (arith, h)))
    (λ h. absurd (omega (arith, h))) (λ h. absurd (omega (arith, h))) in
    first_by_number (HasRefinementFlaw loads sizes pes r) HeightCount refl wrong (nothing_before loads sizes pes r 27 right (omega arith))

pub height_start_is_first : {A : Type 0} (loads : List ℕ) (sizes : List (ℕ × ℕ)) (pes : ℕ) (r : Refinement A)
    → IsCertified loads pes r.least → AreOrdered pes r.order → AreWithin loads r.order (refined_limit r) r.cuts → length r.heights ≡ pes
    → height_at r.heights 0 0 ≢ 0 → IsFirstRefinementFlaw (HasRefinementFlaw loads sizes pes r) HeightStart
height_start_is_first loads sizes pes r least order within counted wrong =
    let right = right_to_heights loads sizes pes r 28 (omega arith) least order within (λ _. counted) (λ h. absurd (omega (arith, h))) (λ h. absurd (omega (arith, h))) in
    first_by_number (HasRefinementFlaw loads sizes pes r) HeightStart refl wrong (nothing_before loads sizes pes r 28 right (omega arith))

pub steep_is_first : {A : Type 0} (loads : List ℕ) (sizes : List (ℕ × ℕ)) (pes : ℕ) (r : Refinement A) (b x : ℕ)
    → IsCertified loads pes r.least → AreOrdered pes r.order → AreWithin loads r.order (refined_limit r) r.cuts → length r.heights ≡ pes
    → height_at r.heights 0 0 ≡ 0 → IsFirstSteep (claim_of loads sizes r) (b, x) → IsFirstRefinementFlaw (HasRefinementFlaw loads sizes pes r) (Steep b x)
steep_is_first {A} loads sizes pes r b x least order within counted starts first =
    let right = right_to_heights loads sizes pes r 29 (omega arith) least order within (λ _. counted) (λ _. starts) (λ h. absurd (omega (arith, h))) in
    record {
      applies_itself = (omega (arith, first.inside, order.naming.counted), first.steep);
      no_lower_number = nothing_before loads sizes pes r 29 right (omega arith);
      no_lower_place = earlier;
    }
  where
    earlier : (other : RefinementFlaw) → refinement_flaw_number other ≡ 29 → IsBefore (refinement_flaw_place other) (b, x) → ¬ (HasRefinementFlaw loads sizes pes r other)
    earlier (Steep a z) same (inl lower) (inside, (y, before, stays, light, high)) =
        absurd (omega (arith, high, first.earlier_blocks a lower z (omega (arith, stays)) stays y before light))
    earlier (Steep a z) same (inr tied) (inside, (y, before, stays, light, high)) =
        let gentle = subst (λ c. height_at r.heights (c + 1) z ≤ height_at r.heights c y + cut_cost sizes r.order c z) (sym tied.0)
        (first.earlier_places z tied.1 stays y before light) in
        absurd (omega (arith, high, gentle))
    earlier (Least flaw) same before flawed = absurd (omega (arith, same, division_flaw flaw))
    earlier _ same before flawed = absurd (omega (arith, same))

pub height_low_is_first : {A : Type 0} (loads : List ℕ) (sizes : List (ℕ × ℕ)) (pes : ℕ) (r : Refinement A) → IsCertified loads pes r.least
    → AreOrdered pes r.order → AreWithin loads r.order (refined_limit r) r.cuts → length r.heights ≡ pes → height_at r.heights 0 0 ≡ 0
    → AreGentle (claim_of loads sizes r) (length r.order - 1) → EndsLow loads sizes r.order (refined_limit r) r.cuts r.heights
    → IsFirstRefinementFlaw (HasRefinementFlaw loads sizes pes r) HeightLow
height_low_is_first loads sizes pes r least order within counted starts gentle wrong =
    let all : AreGentle (claim_of loads sizes r) (pes - 1) = subst (λ n. AreGentle (claim_of loads sizes r) (n - 1)) order.naming.counted gentle in
    let right = right_to_heights loads sizes pes r 30 (omega arith) least order within (λ _. counted) (λ _. starts) (λ _. all) in
    first_by_number (HasRefinementFlaw loads sizes pes r) HeightLow refl wrong (nothing_before loads sizes pes r 30 right (omega arith))

-- a refinement that is right has no flaw
pub right_is_flawless : {A : Type 0} (loads : List ℕ) (sizes : List (ℕ × ℕ)) (pes : ℕ) (r : Refinement A) → IsRefinement loads sizes pes r
    → (flaw : RefinementFlaw) → ¬ (HasRefinementFlaw loads sizes pes r flaw)
right_is_flawless {A} loads sizes pes r right flaw =
    none flaw
  where
    order : AreOrdered pes r.order
    order = record { some_pe = right.some_pe; few_pes = right.few_pes; naming = right.order }

    before : AreRightBefore loads sizes pes r 30
    before =
        right_to_heights loads sizes pes r 30 (omega arith) right.least order right.proved.within
        (λ _. right.proved.counted ∙ right.order.counted) (λ _. right.proved.bound.starts)
        (λ _ b inside x _ within y early light. right.proved.bound.rises b x y (omega (arith, right.order.counted)) early within light)

    none : (flaw : RefinementFlaw) → ¬ (HasRefinementFlaw loads sizes pes r flaw)
    none HeightLow (y, inside, light, low) = absurd (omega (arith, low, right.proved.bound.ends y inside light))
    none (Least flaw) flawed = nothing_before loads sizes pes r 30 before (omega arith) (Least flaw) (omega (arith, division_flaw flaw)) flawed
    none PeCount flawed = nothing_before loads sizes pes r 30 before (omega arith) PeCount (omega arith) flawed
    none NameCount flawed = nothing_before loads sizes pes r 30 before (omega arith) NameCount (omega arith) flawed
    none NameRange flawed = nothing_before loads sizes pes r 30 before (omega arith) NameRange (omega arith) flawed
    none NameTwice flawed = nothing_before loads sizes pes r 30 before (omega arith) NameTwice (omega arith) flawed
    none CutCount flawed = nothing_before loads sizes pes r 30 before (omega arith) CutCount (omega arith) flawed
    none NoDivision flawed = nothing_before loads sizes pes r 30 before (omega arith) NoDivision (omega arith) flawed
    none (Heavy b) flawed = nothing_before loads sizes pes r 30 before (omega arith) (Heavy b) (omega arith) flawed
    none HeightCount flawed = nothing_before loads sizes pes r 30 before (omega arith) HeightCount (omega arith) flawed
    none HeightStart flawed = nothing_before loads sizes pes r 30 before (omega arith) HeightStart (omega arith) flawed
    none (Steep b x) flawed = nothing_before loads sizes pes r 30 before (omega arith) (Steep b x) (omega arith) flawed
