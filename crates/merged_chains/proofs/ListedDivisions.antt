-- A division is the same whatever holds its lists.
use Rattle.std.proofs.Common.{◌≡◌, ◌↔◌, ℕ, ◌+◌, ◌≤◌, List, [], ◌∷◌, Option, None, Result, Ok, Err, IsOk, OnOk, IfErr, length, arith, refl, subst, sym}
use Rattle.std.specs.Result.{result_err}
use Rattle.std.specs.Prelude.{MatchOption}
use Rattle.lb_certificates.specs.Certificate.{IsCertified, MatchFloor}
use Rattle.lb_certificates.specs.Chain.{IsLeastDivision}
use Rattle.lb_certificates.specs.Flaws.{HasFlaw, IsFirst}
use Rattle.lb_certificates.specs.declared.division.Division.{Division}
use Rattle.lb_certificates.specs.declared.division.Floor.{Floor}
use Rattle.lb_certificates.specs.declared.division.Floor.TheVariants.{Zero, Fence}
use Rattle.lb_certificates.specs.declared.flaw.Flaw.{Flaw}
use Rattle.lb_certificates.specs.declared.flaw.Flaw.TheVariants.{FenceCount, FenceStart, FenceOrder, FenceEnd, FenceLight, ZeroFloor}
use Rattle.chain_partition.specs.Chosen.{IsChosen, IsLeastFloor}
use Rattle.merged_chains.specs.Lists.{division_of, floor_of, stops_in}
use Rattle.merged_chains.specs.Weights.{AreWeights, HasWeightFlaw, IsWeighed, WhereWeights}

floors_agree : (A B : Type 0) (stops : List ℕ) (zero : Type 0) (fence : List ℕ → Type 0) → MatchFloor {A = A} (floor_of stops) zero fence
    → MatchFloor {A = B} (floor_of stops) zero fence
floors_agree A B [] zero fence holds = holds
floors_agree A B (stop ∷ stops) zero fence holds = holds

-- the flaws
flaws_agree : (A B : Type 0) (loads : List ℕ) (pes bottleneck : ℕ) (cuts stops : List ℕ) (flaw : Flaw)
    → HasFlaw loads pes (division_of {A = A} bottleneck cuts stops) flaw → HasFlaw loads pes (division_of {A = B} bottleneck cuts stops) flaw
flaws_agree A B loads pes bottleneck cuts stops FenceCount flawed = floors_agree A B stops _ _ flawed
flaws_agree A B loads pes bottleneck cuts stops FenceStart flawed = floors_agree A B stops _ _ flawed
flaws_agree A B loads pes bottleneck cuts stops FenceOrder flawed = floors_agree A B stops _ _ flawed
flaws_agree A B loads pes bottleneck cuts stops FenceEnd flawed = floors_agree A B stops _ _ flawed
flaws_agree A B loads pes bottleneck cuts stops (FenceLight i) flawed = floors_agree A B stops _ _ flawed
flaws_agree A B loads pes bottleneck cuts stops ZeroFloor flawed = floors_agree A B stops _ _ flawed
flaws_agree A B loads pes bottleneck cuts stops _ flawed = flawed

weight_flaws_agree : (A B : Type 0) (all pes bottleneck : ℕ) (cuts stops bl fl : List ℕ) (flaw : Flaw)
    → HasWeightFlaw all pes (division_of {A = A} bottleneck cuts stops) bl fl flaw
    → HasWeightFlaw all pes (division_of {A = B} bottleneck cuts stops) bl fl flaw
weight_flaws_agree A B all pes bottleneck cuts stops bl fl FenceCount flawed = floors_agree A B stops _ _ flawed
weight_flaws_agree A B all pes bottleneck cuts stops bl fl FenceStart flawed = floors_agree A B stops _ _ flawed
weight_flaws_agree A B all pes bottleneck cuts stops bl fl FenceOrder flawed = floors_agree A B stops _ _ flawed
weight_flaws_agree A B all pes bottleneck cuts stops bl fl FenceEnd flawed = floors_agree A B stops _ _ flawed
weight_flaws_agree A B all pes bottleneck cuts stops bl fl (FenceLight i) flawed = floors_agree A B stops _ _ flawed
weight_flaws_agree A B all pes bottleneck cuts stops bl fl ZeroFloor flawed = floors_agree A B stops _ _ flawed
weight_flaws_agree A B all pes bottleneck cuts stops bl fl _ flawed = flawed

-- what holds of a division that holds these lists, holds of the lists
pub certified_listed : {A : Type 0} (loads : List ℕ) (pes bottleneck : ℕ) (cuts stops : List ℕ) (d : Division A)
    → d ≡ division_of bottleneck cuts stops → IsCertified loads pes d → IsCertified loads pes (division_of {A = Unit {0}} bottleneck cuts stops)
certified_listed {A = A} loads pes bottleneck cuts stops d e certified =
    let same = subst (λ other. IsCertified loads pes other) e certified in
    record { divides = same.divides; within = same.within; floor_holds = floors_agree A (Unit {0}) stops _ _ same.floor_holds }

pub first_listed : {A : Type 0} (loads : List ℕ) (pes bottleneck : ℕ) (cuts stops : List ℕ) (d : Division A) (flaw : Flaw)
    → d ≡ division_of bottleneck cuts stops → IsFirst (HasFlaw loads pes d) flaw
    → IsFirst (HasFlaw loads pes (division_of {A = Unit {0}} bottleneck cuts stops)) flaw
first_listed {A = A} loads pes bottleneck cuts stops d flaw e first =
    let same = subst (λ other. IsFirst (HasFlaw loads pes other) flaw) e first in
    record {
      applies_itself = flaws_agree A (Unit {0}) loads pes bottleneck cuts stops flaw same.applies_itself;
      no_lower_number = λ other lower flawed. same.no_lower_number other lower (flaws_agree (Unit {0}) A loads pes bottleneck cuts stops other flawed);
      no_lower_place = λ other equal before flawed. same.no_lower_place other equal before (flaws_agree (Unit {0}) A loads pes bottleneck cuts stops other flawed);
    }

pub weighed_listed : {A : Type 0} (all pes bottleneck : ℕ) (cuts stops bl fl : List ℕ) (d : Division A)
    → d ≡ division_of bottleneck cuts stops → IsWeighed all pes d bl fl → IsWeighed all pes (division_of {A = Unit {0}} bottleneck cuts stops) bl fl
weighed_listed {A = A} all pes bottleneck cuts stops bl fl d e weighed =
    let same = subst (λ other. IsWeighed all pes other bl fl) e weighed in
    record { divides = same.divides; within = same.within; floor_holds = floors_agree A (Unit {0}) stops _ _ same.floor_holds }

pub first_weight_listed : {A : Type 0} (all pes bottleneck : ℕ) (cuts stops bl fl : List ℕ) (d : Division A) (flaw : Flaw)
    → d ≡ division_of bottleneck cuts stops → IsFirst (HasWeightFlaw all pes d bl fl) flaw
    → IsFirst (HasWeightFlaw all pes (division_of {A = Unit {0}} bottleneck cuts stops) bl fl) flaw
first_weight_listed {A = A} all pes bottleneck cuts stops bl fl d flaw e first =
    let same = subst (λ other. IsFirst (HasWeightFlaw all pes other bl fl) flaw) e first in
    record {
      applies_itself = weight_flaws_agree A (Unit {0}) all pes bottleneck cuts stops bl fl flaw same.applies_itself;
      no_lower_number = λ other lower flawed. same.no_lower_number other lower (weight_flaws_agree (Unit {0}) A all pes bottleneck cuts stops bl fl other flawed);
      no_lower_place = λ other equal before flawed. same.no_lower_place other equal before (weight_flaws_agree (Unit {0}) A all pes bottleneck cuts stops bl fl other flawed);
    }

-- loads of the ranges between the lists are loads of the division's ranges
weights_agree : {A : Type 0} (loads : List ℕ) (pes bottleneck : ℕ) (cuts stops bl fl : List ℕ) (d : Division A)
    → d ≡ division_of bottleneck cuts stops → AreWeights loads pes (division_of {A = Unit {0}} bottleneck cuts stops) bl fl → AreWeights loads pes d bl fl
weights_agree {A = A} loads pes bottleneck cuts stops bl fl d e weigh =
    let same : AreWeights loads pes (division_of {A = A} bottleneck cuts stops) bl fl = record
    { blocks_weigh = weigh.blocks_weigh; ranges_weigh = floors_agree (Unit {0}) A stops _ _ weigh.ranges_weigh } in
    subst (λ other. AreWeights loads pes other bl fl) (sym e) same

-- a chosen division, written down
floor_listed : {A : Type 0} (loads : List ℕ) (pes bottleneck : ℕ) (floor : Floor A) → IsLeastFloor loads pes bottleneck floor
    → IsLeastFloor {A = Unit {0}} loads pes bottleneck (floor_of (stops_in floor))
floor_listed loads pes bottleneck Zero least = least
floor_listed loads pes bottleneck (Fence []) least = absurd (omega (arith, least.1.fence.counted))
floor_listed loads pes bottleneck (Fence (stop ∷ stops)) least = least

pub chosen_listed : {A : Type 0} (loads : List ℕ) (pes : ℕ) (d : Division A) (cuts stops : List ℕ) → IsChosen loads pes d → cuts ≡ d.cuts
    → stops ≡ stops_in d.floor → IsChosen loads pes (division_of {A = Unit {0}} d.bottleneck cuts stops)
chosen_listed loads pes d cuts stops chosen cuts_are stops_are =
    let written : IsChosen loads pes (division_of {A = Unit {0}} d.bottleneck d.cuts (stops_in d.floor)) = record
    { least_peak = chosen.least_peak; cuts = chosen.cuts; floor = floor_listed loads pes d.bottleneck d.floor chosen.floor } in
    rw (cuts_are, stops_are) written

-- a chosen division has no more stops than one for each block and one behind them
floor_room : {A : Type 0} (loads : List ℕ) (pes bottleneck : ℕ) (floor : Floor A) → IsLeastFloor loads pes bottleneck floor → length (stops_in floor) ≤ pes + 1
floor_room loads pes bottleneck Zero least = omega arith
floor_room loads pes bottleneck (Fence stops) least = omega (arith, least.1.fence.counted)

pub chosen_room : {A : Type 0} (loads : List ℕ) (pes : ℕ) (d : Division A) → IsChosen loads pes d → length (stops_in d.floor) ≤ pes + 1
chosen_room loads pes d chosen = floor_room loads pes d.bottleneck d.floor chosen.floor

-- what a check by numbers says of the lists
pub exact_listed : {A T : Type 0} (all pes bottleneck : ℕ) (cuts stops bl fl : List ℕ) (d : Division A) (answer : Result T Flaw)
    (found : Option Flaw) → d ≡ division_of bottleneck cuts stops → found ≡ result_err answer → IsOk answer ↔ IsWeighed all pes d bl fl
    → IfErr answer (IsFirst (HasWeightFlaw all pes d bl fl))
    → MatchOption found (IsWeighed all pes (division_of {A = Unit {0}} bottleneck cuts stops) bl fl)
    (IsFirst (HasWeightFlaw all pes (division_of {A = Unit {0}} bottleneck cuts stops) bl fl))
exact_listed all pes bottleneck cuts stops bl fl d (Ok t) found e found_is exact first =
    rw found_is (weighed_listed all pes bottleneck cuts stops bl fl d e (exact.0 refl))
exact_listed all pes bottleneck cuts stops bl fl d (Err flaw) found e found_is exact first =
    rw found_is (first_weight_listed all pes bottleneck cuts stops bl fl d flaw e first)

pub of_division_listed : {A T : Type 0} (all pes bottleneck : ℕ) (cuts stops bl fl : List ℕ) (d : Division A) (answer : Result T Flaw)
    (found : Option Flaw) → d ≡ division_of bottleneck cuts stops → found ≡ result_err answer
    → WhereWeights all pes d bl fl (λ loads. IsOk answer ↔ IsCertified loads pes d)
    → WhereWeights all pes d bl fl (λ loads. IfErr answer (IsFirst (HasFlaw loads pes d)))
    → WhereWeights all pes (division_of {A = Unit {0}} bottleneck cuts stops) bl fl
    (λ loads. MatchOption found (IsCertified loads pes (division_of {A = Unit {0}} bottleneck cuts stops))
    (IsFirst (HasFlaw loads pes (division_of {A = Unit {0}} bottleneck cuts stops))))
of_division_listed all pes bottleneck cuts stops bl fl d (Ok t) found e found_is exact first loads counted weigh =
    rw found_is (certified_listed loads pes bottleneck cuts stops d e ((exact loads counted (weights_agree loads pes bottleneck cuts stops bl fl d e weigh)).0 refl))
of_division_listed all pes bottleneck cuts stops bl fl d (Err flaw) found e found_is exact first loads counted weigh =
    rw found_is (first_listed loads pes bottleneck cuts stops d flaw e (first loads counted (weights_agree loads pes bottleneck cuts stops bl fl d e weigh)))

pub least_listed : {A T : Type 0} (all pes bottleneck : ℕ) (cuts stops bl fl : List ℕ) (d : Division A) (answer : Result T Flaw)
    (found : Option Flaw) → d ≡ division_of bottleneck cuts stops → found ≡ result_err answer
    → WhereWeights all pes d bl fl (λ loads. OnOk answer (IsLeastDivision loads pes d.bottleneck d.cuts))
    → WhereWeights all pes (division_of {A = Unit {0}} bottleneck cuts stops) bl fl (λ loads. found ≡ None → IsLeastDivision loads pes bottleneck cuts)
least_listed all pes bottleneck cuts stops bl fl d (Ok t) found e found_is least loads counted weigh none =
    subst (λ (other : Division _). IsLeastDivision loads pes other.bottleneck other.cuts) e (least loads counted (weights_agree loads pes bottleneck cuts stops bl fl d e weigh))
least_listed all pes bottleneck cuts stops bl fl d (Err flaw) found e found_is least loads counted weigh none = absurd cc
