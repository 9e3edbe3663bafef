-- Where numbers are the loads of the ranges, what they say is what the loads say.
use Rattle.std.proofs.Common.{◌≡◌, ℕ, ◌-◌, ◌<◌, ◌≤◌, ◌↔◌, List, length, slice_index, Result, Ok, Err, IsOk, OnOk, IfErr, arith, subst, sym, ◌∙◌}
use Rattle.lb_certificates.specs.declared.division.Division.{Division}
use Rattle.lb_certificates.specs.declared.division.Floor.{Floor}
use Rattle.lb_certificates.specs.declared.division.Floor.TheVariants.{Zero, Fence}
use Rattle.lb_certificates.specs.declared.flaw.Flaw.{Flaw}
use Rattle.lb_certificates.specs.declared.flaw.Flaw.TheVariants.{CutCount, CutStart, CutOrder, CutEnd, Heavy, FenceCount, FenceStart, FenceOrder, FenceEnd, FenceLight, ZeroFloor}
use Rattle.lb_certificates.specs.Chain.{IsLeastDivision}
use Rattle.lb_certificates.specs.Certificate.{IsCertified, IsFence, MatchFloor, range_load}
use Rattle.lb_certificates.specs.Flaws.{HasFlaw, IsFirst}
use Rattle.lb_certificates.proofs.LeastDivisions.{least_from_certified}
use Rattle.merged_chains.specs.Weights.{AreWeights, HasWeightFlaw, IsWeighed, IsWeighedFence}

-- a fact of a floor, from another and what its ranges weigh
floor_by : {A : Type 0} (floor : Floor A) (weigh : List ℕ → Type 0) (zero₁ zero₂ : Type 0) (fence₁ fence₂ : List ℕ → Type 0)
    → (zero₁ → zero₂) → ((s : List ℕ) → weigh s → fence₁ s → fence₂ s) → MatchFloor floor (Unit {0}) weigh → MatchFloor floor zero₁ fence₁
    → MatchFloor floor zero₂ fence₂
floor_by Zero weigh zero₁ zero₂ fence₁ fence₂ at_zero at_fence w one = at_zero one
floor_by (Fence s) weigh zero₁ zero₂ fence₁ fence₂ at_zero at_fence w one = at_fence s w one

certified_from_weighed : {A : Type 0} (xs : List ℕ) (all p : ℕ) (bl fl : List ℕ) (d : Division A) → length xs ≡ all
    → AreWeights xs p d bl fl → IsWeighed all p d bl fl → IsCertified xs p d
certified_from_weighed xs all p bl fl d e w h =
    record {
      divides = record {
        counted = h.divides.counted;
        starts = h.divides.starts;
        ordered = h.divides.ordered;
        ends = h.divides.ends ∙ sym e;
      };
      within = λ b inside. subst (λ n. n ≤ d.bottleneck) (w.blocks_weigh b inside) (h.within b inside);
      floor_holds = floor_by d.floor (λ s. (i : ℕ) → 0 < i → i ≤ p → slice_index fl (i - 1) ≡ range_load xs s i) (d.bottleneck ≡ 0)
          (d.bottleneck ≡ 0) (IsWeighedFence all p d.bottleneck fl) (IsFence xs p d.bottleneck) (λ zero. zero) (λ s weigh fence. record {
            counted = fence.counted;
            starts = fence.starts;
            ordered = fence.ordered;
            ends = omega (arith, fence.ends);
            heavy = λ i positive inside. subst (λ n. d.bottleneck ≤ n) (weigh i positive inside) (fence.heavy i positive inside);
          }) w.ranges_weigh h.floor_holds;
    }

weighed_from_certified : {A : Type 0} (xs : List ℕ) (all p : ℕ) (bl fl : List ℕ) (d : Division A) → length xs ≡ all
    → AreWeights xs p d bl fl → IsCertified xs p d → IsWeighed all p d bl fl
weighed_from_certified xs all p bl fl d e w h =
    record {
      divides = record {
        counted = h.divides.counted;
        starts = h.divides.starts;
        ordered = h.divides.ordered;
        ends = h.divides.ends ∙ e;
      };
      within = λ b inside. subst (λ n. n ≤ d.bottleneck) (sym (w.blocks_weigh b inside)) (h.within b inside);
      floor_holds = floor_by d.floor (λ s. (i : ℕ) → 0 < i → i ≤ p → slice_index fl (i - 1) ≡ range_load xs s i) (d.bottleneck ≡ 0)
          (d.bottleneck ≡ 0) (IsFence xs p d.bottleneck) (IsWeighedFence all p d.bottleneck fl) (λ zero. zero) (λ s weigh fence. record {
            counted = fence.counted;
            starts = fence.starts;
            ordered = fence.ordered;
            ends = omega (arith, fence.ends);
            heavy = λ i positive inside. subst (λ n. d.bottleneck ≤ n) (sym (weigh i positive inside)) (fence.heavy i positive inside);
          }) w.ranges_weigh h.floor_holds;
    }

-- a flaw applies by the numbers where it applies by the loads
flaw_from_numbers : {A : Type 0} (xs : List ℕ) (all p : ℕ) (bl fl : List ℕ) (d : Division A) → length xs ≡ all → AreWeights xs p d bl fl
    → (flaw : Flaw) → HasWeightFlaw all p d bl fl flaw → HasFlaw xs p d flaw
flaw_from_numbers xs all p bl fl d e w CutCount flawed = flawed
flaw_from_numbers xs all p bl fl d e w CutStart flawed = flawed
flaw_from_numbers xs all p bl fl d e w CutOrder flawed = flawed
flaw_from_numbers xs all p bl fl d e w CutEnd flawed = λ ends. flawed (ends ∙ e)
flaw_from_numbers xs all p bl fl d e w (Heavy b) (inside, heavy) = (inside, omega (arith, heavy, w.blocks_weigh b inside))
flaw_from_numbers xs all p bl fl d e w FenceCount flawed = flawed
flaw_from_numbers xs all p bl fl d e w FenceStart flawed = flawed
flaw_from_numbers xs all p bl fl d e w FenceOrder flawed = flawed
flaw_from_numbers xs all p bl fl d e w FenceEnd flawed =
    floor_by d.floor (λ s. (i : ℕ) → 0 < i → i ≤ p → slice_index fl (i - 1) ≡ range_load xs s i) ⊥ ⊥ (λ s. all ≤ slice_index s p)
    (λ s. length xs ≤ slice_index s p) (λ no. no) (λ s weigh past. omega (arith, past, e)) w.ranges_weigh flawed
flaw_from_numbers xs all p bl fl d e w (FenceLight i) flawed =
    floor_by d.floor (λ s. (k : ℕ) → 0 < k → k ≤ p → slice_index fl (k - 1) ≡ range_load xs s k) ⊥ ⊥
    (λ s. (0 < i) × (i ≤ p) × (slice_index fl (i - 1) < d.bottleneck)) (λ s. (0 < i) × (i ≤ p) × (range_load xs s i < d.bottleneck))
    (λ no. no) (λ s weigh (positive, inside, light). (positive, inside, subst (λ n. n < d.bottleneck) (weigh i positive inside) light))
    w.ranges_weigh flawed
flaw_from_numbers xs all p bl fl d e w ZeroFloor flawed = flawed
flaw_from_numbers xs all p bl fl d e w _ flawed = flawed

flaw_to_numbers : {A : Type 0} (xs : List ℕ) (all p : ℕ) (bl fl : List ℕ) (d : Division A) → length xs ≡ all → AreWeights xs p d bl fl
    → (flaw : Flaw) → HasFlaw xs p d flaw → HasWeightFlaw all p d bl fl flaw
flaw_to_numbers xs all p bl fl d e w CutCount flawed = flawed
flaw_to_numbers xs all p bl fl d e w CutStart flawed = flawed
flaw_to_numbers xs all p bl fl d e w CutOrder flawed = flawed
flaw_to_numbers xs all p bl fl d e w CutEnd flawed = λ ends. flawed (ends ∙ sym e)
flaw_to_numbers xs all p bl fl d e w (Heavy b) (inside, heavy) = (inside, omega (arith, heavy, w.blocks_weigh b inside))
flaw_to_numbers xs all p bl fl d e w FenceCount flawed = flawed
flaw_to_numbers xs all p bl fl d e w FenceStart flawed = flawed
flaw_to_numbers xs all p bl fl d e w FenceOrder flawed = flawed
flaw_to_numbers xs all p bl fl d e w FenceEnd flawed =
    floor_by d.floor (λ s. (i : ℕ) → 0 < i → i ≤ p → slice_index fl (i - 1) ≡ range_load xs s i) ⊥ ⊥ (λ s. length xs ≤ slice_index s p)
    (λ s. all ≤ slice_index s p) (λ no. no) (λ s weigh past. omega (arith, past, e)) w.ranges_weigh flawed
flaw_to_numbers xs all p bl fl d e w (FenceLight i) flawed =
    floor_by d.floor (λ s. (k : ℕ) → 0 < k → k ≤ p → slice_index fl (k - 1) ≡ range_load xs s k) ⊥ ⊥
    (λ s. (0 < i) × (i ≤ p) × (range_load xs s i < d.bottleneck)) (λ s. (0 < i) × (i ≤ p) × (slice_index fl (i - 1) < d.bottleneck))
    (λ no. no) (λ s weigh (positive, inside, light). (
      positive,
      inside,
      subst (λ n. n < d.bottleneck) (sym (weigh i positive inside)) light,
    )) w.ranges_weigh flawed
flaw_to_numbers xs all p bl fl d e w ZeroFloor flawed = flawed
flaw_to_numbers xs all p bl fl d e w _ flawed = flawed

-- what an answer about the numbers says of the loads
pub certified_answer : {A T : Type 0} (xs : List ℕ) (all p : ℕ) (bl fl : List ℕ) (d : Division A) (answer : Result T Flaw)
    → (IsOk answer ↔ IsWeighed all p d bl fl) → length xs ≡ all → AreWeights xs p d bl fl → IsOk answer ↔ IsCertified xs p d
certified_answer xs all p bl fl d answer exact e w = (
  λ accepted. certified_from_weighed xs all p bl fl d e w (exact.0 accepted),
  λ certified. exact.1 (weighed_from_certified xs all p bl fl d e w certified),
)

pub least_answer : {A T : Type 0} (xs : List ℕ) (all p : ℕ) (bl fl : List ℕ) (d : Division A) (answer : Result T Flaw)
    → OnOk answer (IsWeighed all p d bl fl) → length xs ≡ all → AreWeights xs p d bl fl → OnOk answer (IsLeastDivision xs p d.bottleneck d.cuts)
least_answer xs all p bl fl d (Ok _) weighed e w =
    least_from_certified xs p d (certified_from_weighed xs all p bl fl d e w weighed)
least_answer xs all p bl fl d (Err _) weighed e w = weighed

pub flaw_answer : {A T : Type 0} (xs : List ℕ) (all p : ℕ) (bl fl : List ℕ) (d : Division A) (answer : Result T Flaw)
    → IfErr answer (IsFirst (HasWeightFlaw all p d bl fl)) → length xs ≡ all → AreWeights xs p d bl fl → IfErr answer (IsFirst (HasFlaw xs p d))
flaw_answer xs all p bl fl d (Ok _) first e w = first
flaw_answer xs all p bl fl d (Err flaw) first e w =
    record {
      applies_itself = flaw_from_numbers xs all p bl fl d e w flaw first.applies_itself;
      no_lower_number = λ other lower flawed. first.no_lower_number other lower (flaw_to_numbers xs all p bl fl d e w other flawed);
      no_lower_place = λ other same earlier flawed. first.no_lower_place other same earlier (flaw_to_numbers xs all p bl fl d e w other flawed);
    }
