-- Flaws against certificates, by the loads of ranges.
use Rattle.std.proofs.Common.{◌≡◌, ◌≢◌, ℕ, ◌+◌, ◌-◌, ◌<◌, ◌≤◌, ◌↔◌, inl, inr, List, length, slice_index, Result, Ok, Err, IsOk, OnOk, IfErr, arith, refl, subst, sym}
use Rattle.std.specs.List.Sorted.{IsNonDecreasing}
use Rattle.lb_certificates.specs.declared.division.Division.{Division}
use Rattle.lb_certificates.specs.declared.division.Floor.{Floor}
use Rattle.lb_certificates.specs.declared.division.Floor.TheVariants.{Zero, Fence}
use Rattle.lb_certificates.specs.declared.flaw.Flaw.{Flaw}
use Rattle.lb_certificates.specs.declared.flaw.Flaw.TheVariants.{CutCount, CutStart, CutOrder, CutEnd, Heavy, FenceCount, FenceStart, FenceOrder, FenceEnd, FenceLight, ZeroFloor}
use Rattle.lb_certificates.specs.Chain.{IsDivision}
use Rattle.lb_certificates.specs.Certificate.{MatchFloor}
use Rattle.lb_certificates.specs.Flaws.{Falls, IsBefore, IsFirst, flaw_number, flaw_place}
use Rattle.lb_certificates.proofs.NoFlaws.{first_by_number}
use Rattle.merged_chains.specs.Weights.{HasWeightFlaw, HoldsBy, IsFirstLighter, IsWeighed, IsWeighedFence, NoneHeavy, NoneLighter}

-- two facts about a floor that exclude each other at either kind
floors_apart : {A : Type 0} (floor : Floor A) (zero₁ zero₂ : Type 0) (fence₁ fence₂ : List ℕ → Type 0) → (zero₁ → zero₂ → ⊥)
    → ((s : List ℕ) → fence₁ s → fence₂ s → ⊥) → MatchFloor floor zero₁ fence₁ → MatchFloor floor zero₂ fence₂ → ⊥
floors_apart Zero zero₁ zero₂ fence₁ fence₂ at_zero at_fence one other = at_zero one other
floors_apart (Fence s) zero₁ zero₂ fence₁ fence₂ at_zero at_fence one other = at_fence s one other

-- a division that these numbers certify has no flaw
pub flawless : {A : Type 0} (all p : ℕ) (bl fl : List ℕ) (d : Division A) → IsWeighed all p d bl fl → (flaw : Flaw) → ¬ (HasWeightFlaw all p d bl fl flaw)
flawless all p bl fl d h CutCount flawed = flawed h.divides.counted
flawless all p bl fl d h CutStart flawed = flawed h.divides.starts
flawless all p bl fl d h CutOrder (i, inside, falls) = absurd (omega (arith, falls, h.divides.ordered i (i + 1) 0 (omega arith) inside))
flawless all p bl fl d h CutEnd flawed = flawed h.divides.ends
flawless all p bl fl d h (Heavy b) (inside, heavy) = absurd (omega (arith, heavy, h.within b inside))
flawless all p bl fl d h FenceCount flawed =
    floors_apart d.floor _ _ _ _ (λ _ no. no) (λ s fence no. no fence.counted) h.floor_holds flawed
flawless all p bl fl d h FenceStart flawed =
    floors_apart d.floor _ _ _ _ (λ _ no. no) (λ s fence no. no fence.starts) h.floor_holds flawed
flawless all p bl fl d h FenceOrder flawed =
    floors_apart d.floor _ _ _ _ (λ _ no. no) (λ s fence (i, inside, falls). absurd (omega (arith, falls, fence.ordered i (i + 1) 0 (omega arith) inside))) h.floor_holds flawed
flawless all p bl fl d h FenceEnd flawed =
    floors_apart d.floor _ _ _ _ (λ _ no. no) (λ s fence past. absurd (omega (arith, past, fence.ends))) h.floor_holds flawed
flawless all p bl fl d h (FenceLight i) flawed =
    floors_apart d.floor _ _ _ _ (λ _ no. no) (λ s fence light. absurd (omega (arith, light.2, fence.heavy i light.0 light.1))) h.floor_holds flawed
flawless all p bl fl d h ZeroFloor flawed =
    floors_apart d.floor _ _ _ _ (λ is_zero no. no is_zero) (λ s fence no. no) h.floor_holds flawed
flawless all p bl fl d h _ flawed = flawed

-- it gets no answer that names a flaw
pub ok_where_weighed : {A T : Type 0} (all p : ℕ) (bl fl : List ℕ) (d : Division A) (answer : Result T Flaw)
    → IfErr answer (IsFirst (HasWeightFlaw all p d bl fl)) → IsWeighed all p d bl fl → IsOk answer
ok_where_weighed all p bl fl d (Ok _) first weighed = refl
ok_where_weighed all p bl fl d (Err flaw) first weighed = absurd (flawless all p bl fl d weighed flaw first.applies_itself)

-- what holds of any floor whose kind is a fence, and the other way round
to_fence : {A : Type 0} (floor : Floor A) (s : List ℕ) (at_zero : Type 0) (at_fence : List ℕ → Type 0) → floor ≡ Fence s → MatchFloor floor at_zero at_fence → at_fence s
to_fence floor s at_zero at_fence e m = subst (λ f. MatchFloor f at_zero at_fence) e m

of_fence : {A : Type 0} (floor : Floor A) (s : List ℕ) (at_zero : Type 0) (at_fence : List ℕ → Type 0) → floor ≡ Fence s → at_fence s → MatchFloor floor at_zero at_fence
of_fence floor s at_zero at_fence e m = subst (λ f. MatchFloor f at_zero at_fence) (sym e) m

-- a fence with no light range holds
pub fence_holds : {A : Type 0} (all p bottleneck : ℕ) (fl : List ℕ) (floor : Floor A) (s : List ℕ) → floor ≡ Fence s → length s ≡ p + 1
    → slice_index s 0 ≡ 0 → IsNonDecreasing s → slice_index s p < all → NoneLighter fl p bottleneck → HoldsBy all p bottleneck fl floor
fence_holds all p bottleneck fl floor s e counted starts ordered ends heavy =
    of_fence floor s (bottleneck ≡ 0) (IsWeighedFence all p bottleneck fl) e (record { counted = counted; starts = starts; ordered = ordered; ends = ends; heavy = heavy })

-- no flaw with a number below n applies, where all that these flaws are about is right
nothing_before : {A : Type 0} (all p : ℕ) (bl fl : List ℕ) (d : Division A) (s : List ℕ) (number : ℕ) → IsDivision 0 all p d.cuts
    → NoneHeavy bl p d.bottleneck → d.floor ≡ Fence s → number ≤ 10 → (6 < number → length s ≡ p + 1) → (7 < number → slice_index s 0 ≡ 0)
    → (8 < number → IsNonDecreasing s) → (9 < number → slice_index s p < all) → (other : Flaw) → flaw_number other < number
    → ¬ (HasWeightFlaw all p d bl fl other)
nothing_before all p bl fl d s number division within e few counted starts ordered ends CutCount h flawed = flawed division.counted
nothing_before all p bl fl d s number division within e few counted starts ordered ends CutStart h flawed = flawed division.starts
nothing_before all p bl fl d s number division within e few counted starts ordered ends CutOrder h (k, inside, falls) =
    absurd (omega (arith, falls, division.ordered k (k + 1) 0 (omega arith) inside))
nothing_before all p bl fl d s number division within e few counted starts ordered ends CutEnd h flawed = flawed division.ends
nothing_before all p bl fl d s number division within e few counted starts ordered ends (Heavy b) h (inside, heavy) =
    absurd (omega (arith, heavy, within b inside))
nothing_before all p bl fl d s number division within e few counted starts ordered ends FenceCount h flawed =
    to_fence d.floor s ⊥ (λ s. length s ≢ p + 1) e flawed (counted h)
nothing_before all p bl fl d s number division within e few counted starts ordered ends FenceStart h flawed =
    to_fence d.floor s ⊥ (λ s. slice_index s 0 ≢ 0) e flawed (starts h)
nothing_before all p bl fl d s number division within e few counted starts ordered ends FenceOrder h flawed =
    let (k, inside, falls) = to_fence d.floor s ⊥ Falls e flawed in
    absurd (omega (arith, falls, ordered h k (k + 1) 0 (omega arith) inside))
nothing_before all p bl fl d s number division within e few counted starts ordered ends FenceEnd h flawed =
    absurd (omega (arith, ends h, to_fence d.floor s ⊥ (λ s. all ≤ slice_index s p) e flawed))
nothing_before all p bl fl d s number division within e few counted starts ordered ends _ h flawed = absurd (omega arith)

-- a last cut other than the number of elements is the first flaw, where the cuts are right otherwise
pub cut_end_is_first : {A : Type 0} (all p : ℕ) (bl fl : List ℕ) (d : Division A) → length d.cuts ≡ p + 1 → slice_index d.cuts 0 ≡ 0
    → IsNonDecreasing d.cuts → slice_index d.cuts p ≢ all → IsFirst (HasWeightFlaw all p d bl fl) CutEnd
cut_end_is_first all p bl fl d counted starts ordered wrong =
    first_by_number (HasWeightFlaw all p d bl fl) CutEnd refl wrong lower
  where
    lower : (other : Flaw) → flaw_number other < 4 → ¬ (HasWeightFlaw all p d bl fl other)
    lower CutCount h flawed = flawed counted
    lower CutStart h flawed = flawed starts
    lower CutOrder h (k, inside, falls) = absurd (omega (arith, falls, ordered k (k + 1) 0 (omega arith) inside))
    lower _ h flawed = absurd (omega arith)

-- a block above the bottleneck is the first flaw, where the cuts and the blocks before it are right
pub heavy_is_first : {A : Type 0} (all p : ℕ) (bl fl : List ℕ) (d : Division A) (b : ℕ) → IsDivision 0 all p d.cuts
    → NoneHeavy bl b d.bottleneck → b < p → d.bottleneck < slice_index bl b → IsFirst (HasWeightFlaw all p d bl fl) (Heavy b)
heavy_is_first {A} all p bl fl d b division before inside heavy =
    record {
      applies_itself = (inside, heavy);
      no_lower_number = lower;
      no_lower_place = earlier;
    }
  where
    lower : (other : Flaw) → flaw_number other < 5 → ¬ (HasWeightFlaw all p d bl fl other)
    lower CutCount h flawed = flawed division.counted
    lower CutStart h flawed = flawed division.starts
    lower CutOrder h (k, inside, falls) =
        absurd (omega (arith, falls, division.ordered k (k + 1) 0 (omega arith) inside))
    lower CutEnd h flawed = flawed division.ends
    lower _ h flawed = absurd (omega arith)

    earlier : (other : Flaw) → flaw_number other ≡ 5 → IsBefore (flaw_place other) (b, 0) → ¬ (HasWeightFlaw all p d bl fl other)
    earlier (Heavy k) same (inl lower) flawed = absurd (omega (arith, flawed.1, before k lower))
    earlier (Heavy k) same (inr tied) flawed = absurd (omega (arith, tied.1))
    earlier _ same lower flawed = absurd (omega arith)

-- a floor of 0 under a bottleneck other than 0 is the first flaw, where cuts and blocks are right
pub zero_is_first : {A : Type 0} (all p : ℕ) (bl fl : List ℕ) (d : Division A) → IsDivision 0 all p d.cuts → NoneHeavy bl p d.bottleneck
    → d.floor ≡ Zero → d.bottleneck ≢ 0 → IsFirst (HasWeightFlaw all p d bl fl) ZeroFloor
zero_is_first {A} all p bl fl d division within e wrong =
    first_by_number (HasWeightFlaw all p d bl fl) ZeroFloor refl (subst (λ f. MatchFloor f (d.bottleneck ≢ 0) (λ _. ⊥)) (sym e) wrong) lower
  where
    no_fence : (at_fence : List ℕ → Type 0) → ¬ (MatchFloor d.floor ⊥ at_fence)
    no_fence at_fence flawed = subst (λ f. MatchFloor f ⊥ at_fence) e flawed

    lower : (other : Flaw) → flaw_number other < 11 → ¬ (HasWeightFlaw all p d bl fl other)
    lower CutCount h flawed = flawed division.counted
    lower CutStart h flawed = flawed division.starts
    lower CutOrder h (k, inside, falls) =
        absurd (omega (arith, falls, division.ordered k (k + 1) 0 (omega arith) inside))
    lower CutEnd h flawed = flawed division.ends
    lower (Heavy b) h (inside, heavy) = absurd (omega (arith, heavy, within b inside))
    lower FenceCount h flawed = no_fence (λ s. length s ≢ p + 1) flawed
    lower FenceStart h flawed = no_fence (λ s. slice_index s 0 ≢ 0) flawed
    lower FenceOrder h flawed = no_fence Falls flawed
    lower FenceEnd h flawed = no_fence (λ s. all ≤ slice_index s p) flawed
    lower (FenceLight i) h flawed =
        no_fence (λ s. (0 < i) × (i ≤ p) × (slice_index fl (i - 1) < d.bottleneck)) flawed
    lower _ h flawed = absurd (omega arith)

-- each flaw of a fence is the first, where all that is looked at before it is right
pub count_is_first : {A : Type 0} (all p : ℕ) (bl fl : List ℕ) (d : Division A) (s : List ℕ) → IsDivision 0 all p d.cuts
    → NoneHeavy bl p d.bottleneck → d.floor ≡ Fence s → length s ≢ p + 1 → IsFirst (HasWeightFlaw all p d bl fl) FenceCount
count_is_first all p bl fl d s division within e wrong =
    first_by_number (HasWeightFlaw all p d bl fl) FenceCount refl (of_fence d.floor s ⊥ (λ s. length s ≢ p + 1) e wrong)
    (nothing_before all p bl fl d s 6 division within e (omega arith) (λ h. absurd (omega (arith, h))) (λ h. absurd (omega (arith, h)))
    (λ h. absurd (omega (arith, h))) (λ h. absurd (omega (arith, h))))

pub start_is_first : {A : Type 0} (all p : ℕ) (bl fl : List ℕ) (d : Division A) (s : List ℕ) → IsDivision 0 all p d.cuts
    → NoneHeavy bl p d.bottleneck → d.floor ≡ Fence s → length s ≡ p + 1 → slice_index s 0 ≢ 0 → IsFirst (HasWeightFlaw all p d bl fl) FenceStart
start_is_first all p bl fl d s division within e counted wrong =
    first_by_number (HasWeightFlaw all p d bl fl) FenceStart refl (of_fence d.floor s ⊥ (λ s. slice_index s 0 ≢ 0) e wrong)
    (nothing_before all p bl fl d s 7 division within e (omega arith) (λ h. counted) (λ h. absurd (omega (arith, h)))
    (λ h. absurd (omega (arith, h))) (λ h. absurd (omega (arith, h))))

pub order_is_first : {A : Type 0} (all p : ℕ) (bl fl : List ℕ) (d : Division A) (s : List ℕ) → IsDivision 0 all p d.cuts
    → NoneHeavy bl p d.bottleneck → d.floor ≡ Fence s → length s ≡ p + 1 → slice_index s 0 ≡ 0 → Falls s → IsFirst (HasWeightFlaw all p d bl fl) FenceOrder
order_is_first all p bl fl d s division within e counted starts wrong =
    first_by_number (HasWeightFlaw all p d bl fl) FenceOrder refl (of_fence d.floor s ⊥ Falls e wrong)
    (nothing_before all p bl fl d s 8 division within e (omega arith) (λ h. counted) (λ h. starts) (λ h. absurd (omega (arith, h)))
    (λ h. absurd (omega (arith, h))))

pub end_is_first : {A : Type 0} (all p : ℕ) (bl fl : List ℕ) (d : Division A) (s : List ℕ) → IsDivision 0 all p d.cuts
    → NoneHeavy bl p d.bottleneck → d.floor ≡ Fence s → length s ≡ p + 1 → slice_index s 0 ≡ 0 → IsNonDecreasing s → all ≤ slice_index s p
    → IsFirst (HasWeightFlaw all p d bl fl) FenceEnd
end_is_first all p bl fl d s division within e counted starts ordered wrong =
    first_by_number (HasWeightFlaw all p d bl fl) FenceEnd refl (of_fence d.floor s ⊥ (λ s. all ≤ slice_index s p) e wrong)
    (nothing_before all p bl fl d s 9 division within e (omega arith) (λ h. counted) (λ h. starts) (λ h. ordered) (λ h. absurd (omega (arith, h))))

pub light_is_first : {A : Type 0} (all p : ℕ) (bl fl : List ℕ) (d : Division A) (s : List ℕ) (i : ℕ) → IsDivision 0 all p d.cuts
    → NoneHeavy bl p d.bottleneck → d.floor ≡ Fence s → length s ≡ p + 1 → slice_index s 0 ≡ 0 → IsNonDecreasing s → slice_index s p < all
    → IsFirstLighter fl p d.bottleneck i → IsFirst (HasWeightFlaw all p d bl fl) (FenceLight i)
light_is_first {A} all p bl fl d s i division within e counted starts ordered ends first =
    record {
      applies_itself = of_fence d.floor s ⊥ (λ s. (0 < i) × (i ≤ p) × (slice_index fl (i - 1) < d.bottleneck)) e (first.positive, first.inside, first.light);
      no_lower_number = nothing_before all p bl fl d s 10 division within e (omega arith) (λ h. counted) (λ h. starts) (λ h. ordered) (λ h. ends);
      no_lower_place = earlier;
    }
  where
    earlier : (other : Flaw) → flaw_number other ≡ 10 → IsBefore (flaw_place other) (i, 0) → ¬ (HasWeightFlaw all p d bl fl other)
    earlier (FenceLight j) same (inr tied) flawed = absurd (omega (arith, tied.1))
    earlier (FenceLight j) same (inl lower) flawed =
        let light : (0 < j) × (j ≤ p) × (slice_index fl (j - 1) < d.bottleneck) = to_fence d.floor s ⊥
        (λ s. (0 < j) × (j ≤ p) × (slice_index fl (j - 1) < d.bottleneck)) e flawed in
        absurd (omega (arith, light.2, first.earlier j light.0 (omega arith)))
    earlier _ same lower flawed = absurd (omega arith)

weighed_where_ok : {A T : Type 0} (all p : ℕ) (bl fl : List ℕ) (d : Division A) (answer : Result T Flaw)
    → OnOk answer (IsWeighed all p d bl fl) → IsOk answer → IsWeighed all p d bl fl
weighed_where_ok all p bl fl d (Ok _) weighed accepted = weighed
weighed_where_ok all p bl fl d (Err _) weighed accepted = absurd cc

-- an answer that accepts says that the numbers certify the division, and no other does
pub exact_answer : {A T : Type 0} (all p : ℕ) (bl fl : List ℕ) (d : Division A) (answer : Result T Flaw)
    → OnOk answer (IsWeighed all p d bl fl) → IfErr answer (IsFirst (HasWeightFlaw all p d bl fl)) → IsOk answer ↔ IsWeighed all p d bl fl
exact_answer all p bl fl d answer weighed first = (
  weighed_where_ok all p bl fl d answer weighed,
  ok_where_weighed all p bl fl d answer first,
)
