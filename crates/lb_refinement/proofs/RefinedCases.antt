-- What follows from a refined decision, whichever of the two it is.
use Rattle.std.proofs.Common.{◌≡◌, ℕ, ◌<◌, ◌≤◌, List, length, arith, sym, subst, inl, inr}
use Rattle.lb_certificates.specs.Chain.{IsDivision, peak}
use Rattle.lb_certificates.specs.Naming.{IsNaming}
use Rattle.lb_certificates.proofs.Chains.{peak-le}
use Rattle.lb_strategy.specs.Decisions.{HasBoundedPrices}
use Rattle.lb_strategy.specs.Moves.{HasPlace}
use Rattle.lb_strategy.specs.declared.decision.Decision.{Decision}
use Rattle.lb_strategy.proofs.RightDecisions.{least_from_right, place_from_named, place_from_right}
use Rattle.chain_refinement.specs.Refinement.{refined_limit}
use Rattle.chain_refinement.specs.Tolerances.{limit_of}
use Rattle.lb_refinement.specs.Refined.{ArePricesSmall, IsCheaper, IsDecidedWithin, IsKept, IsRefined, IsRefinedBy, IsThePlan, Kept, least_by, least_load, refined_bottleneck, refined_cuts, refined_moved, refined_names, refinement_of}
use Rattle.lb_refinement.specs.declared.nearness.Nearness.{Nearness}
use Rattle.lb_refinement.specs.declared.nearness.Nearness.TheVariants.{Planned, InOrder, InAnyOrder}
use Rattle.lb_refinement.specs.declared.refined.Refined.{Refined}
use Rattle.lb_refinement.proofs.KeptWhole.{whole}
use Rattle.lb_refinement.proofs.OneRefined.{one_planned}

-- the cheaper of the two is the refined decision
pub cheaper_is : {A : Type 0} (loads : List ℕ) (sizes : List (ℕ × ℕ)) (pes tolerance : ℕ) (planned : Decision A) (kept : Kept A)
    (r : Refined A) → IsThePlan loads sizes pes planned → IsKept loads sizes pes tolerance kept → IsCheaper planned kept r
    → IsRefined loads sizes pes tolerance r
cheaper_is loads sizes pes tolerance planned kept r one other (inl (same, no_more)) =
    subst (IsRefined loads sizes pes tolerance) (sym same) (one, inr (kept, other, no_more))
cheaper_is loads sizes pes tolerance planned kept r one other (inr (same, less)) =
    subst (IsRefined loads sizes pes tolerance) (sym same) (other, (planned, one, less))

-- whichever it is, by its decision and what proves it
module _ {A : Type 0} (loads : List ℕ) (sizes : List (ℕ × ℕ)) (pes tolerance : ℕ) where
  bottleneck_by : (d : Decision A) (n : Nearness A) → IsRefinedBy loads sizes pes tolerance d n → d.division.bottleneck ≡ peak loads d.division.cuts
  bottleneck_by d Planned refined = sym (least_from_right loads sizes pes d refined.0.right).peak_is
  bottleneck_by d (InOrder p) refined = refined.0.bottleneck_is
  bottleneck_by d (InAnyOrder p) refined = absurd refined

  peak_by : (d : Decision A) (n : Nearness A) → IsRefinedBy loads sizes pes tolerance d n → peak loads d.division.cuts ≤ limit_of (least_by d n).bottleneck tolerance
  peak_by d Planned refined =
      omega (arith, (least_from_right loads sizes pes d refined.0.right).peak_is)
  peak_by d (InOrder p) refined =
      let kept = refined.0 in
      let inside = kept.right.proved.within in
      let most : peak loads d.division.cuts ≤ refined_limit (refinement_of (d, p)) = peak-le loads d.division.cuts (refined_limit (refinement_of (d, p)))
      (λ b before. inside.within b (omega (arith, inside.divides.counted))) in
      subst (λ t. peak loads d.division.cuts ≤ limit_of p.least.bottleneck t) kept.tolerance_is most
  peak_by d (InAnyOrder p) refined = absurd refined

  blocks_by : (d : Decision A) (n : Nearness A) → IsRefinedBy loads sizes pes tolerance d n → IsDivision 0 (length loads) pes d.division.cuts
  blocks_by d Planned refined = refined.0.right.division.divides
  blocks_by d (InOrder p) refined =
      let kept = refined.0 in
      subst (λ n. IsDivision 0 (length loads) n d.division.cuts) kept.order.naming.counted kept.right.proved.within.divides
  blocks_by d (InAnyOrder p) refined = absurd refined

  naming_by : (d : Decision A) (n : Nearness A) → IsRefinedBy loads sizes pes tolerance d n → IsNaming pes d.naming
  naming_by d Planned refined = refined.0.least_naming.naming
  naming_by d (InOrder p) refined = refined.0.least_naming.naming
  naming_by d (InAnyOrder p) refined = absurd refined

  no_more_by : (d : Decision A) (n : Nearness A) → IsRefinedBy loads sizes pes tolerance d n → (e : Decision A) → IsThePlan loads sizes pes e → d.moved ≤ e.moved
  no_more_by d Planned refined e planned =
      omega (arith, (one_planned loads sizes pes d e refined.0 planned).moved)
  no_more_by d (InOrder p) (kept, (f, also, less)) e planned =
      omega (arith, less, (one_planned loads sizes pes f e also planned).moved)
  no_more_by d (InAnyOrder p) refined e planned = absurd refined

  places_by : (d : Decision A) (n : Nearness A) → IsRefinedBy loads sizes pes tolerance d n → (i : ℕ) → i < length sizes → HasPlace d.division.cuts d.naming i
  places_by d Planned refined i inside =
      place_from_right loads sizes pes d refined.0.right i inside
  places_by d (InOrder p) refined i inside =
      place_from_named sizes d.division.cuts d.naming d.prices.u d.prices.v refined.0.named i inside
  places_by d (InAnyOrder p) refined i inside = absurd refined

pub bottleneck_is : {A : Type 0} (loads : List ℕ) (sizes : List (ℕ × ℕ)) (pes tolerance : ℕ) (r : Refined A)
    → IsRefined loads sizes pes tolerance r → refined_bottleneck r ≡ peak loads (refined_cuts r)
bottleneck_is loads sizes pes tolerance r = bottleneck_by loads sizes pes tolerance r.decision r.nearness

pub within : {A : Type 0} (loads : List ℕ) (sizes : List (ℕ × ℕ)) (pes tolerance : ℕ) (r : Refined A)
    → IsRefined loads sizes pes tolerance r → refined_bottleneck r ≤ limit_of (least_load r) tolerance
within loads sizes pes tolerance r refined =
    subst (λ n. n ≤ limit_of (least_load r) tolerance) (sym (bottleneck_is loads sizes pes tolerance r refined))
    (peak_by loads sizes pes tolerance r.decision r.nearness refined)

pub blocks : {A : Type 0} (loads : List ℕ) (sizes : List (ℕ × ℕ)) (pes tolerance : ℕ) (r : Refined A)
    → IsRefined loads sizes pes tolerance r → IsDivision 0 (length loads) pes (refined_cuts r)
blocks loads sizes pes tolerance r = blocks_by loads sizes pes tolerance r.decision r.nearness

pub naming : {A : Type 0} (loads : List ℕ) (sizes : List (ℕ × ℕ)) (pes tolerance : ℕ) (r : Refined A) → IsRefined loads sizes pes tolerance r → IsNaming pes (refined_names r)
naming loads sizes pes tolerance r = naming_by loads sizes pes tolerance r.decision r.nearness

pub no_more : {A : Type 0} (loads : List ℕ) (sizes : List (ℕ × ℕ)) (pes tolerance : ℕ) (r : Refined A)
    → IsRefined loads sizes pes tolerance r → (d : Decision A) → IsThePlan loads sizes pes d → refined_moved r ≤ d.moved
no_more loads sizes pes tolerance r = no_more_by loads sizes pes tolerance r.decision r.nearness

pub places : {A : Type 0} (loads : List ℕ) (sizes : List (ℕ × ℕ)) (pes tolerance : ℕ) (r : Refined A)
    → IsRefined loads sizes pes tolerance r → (i : ℕ) → i < length sizes → HasPlace (refined_cuts r) (refined_names r) i
places loads sizes pes tolerance r = places_by loads sizes pes tolerance r.decision r.nearness

pub bounded : {A : Type 0} (loads : List ℕ) (sizes : List (ℕ × ℕ)) (pes tolerance : ℕ) (planned : Decision A) (kept : Kept A)
    (r : Refined A) → HasBoundedPrices sizes planned → IsKept loads sizes pes tolerance kept → IsCheaper planned kept r → ArePricesSmall sizes r
bounded loads sizes pes tolerance planned kept r one other (inl (same, no_more)) =
    subst (ArePricesSmall sizes) (sym same) one
bounded loads sizes pes tolerance planned kept r one other (inr (same, less)) =
    subst (ArePricesSmall sizes) (sym same) other.bounded

-- what holds of the refined decision with its prices
pub decided_within : {A : Type 0} (loads : List ℕ) (sizes : List (ℕ × ℕ)) (pes tolerance : ℕ) (r : Refined A)
    → IsRefined loads sizes pes tolerance r → ArePricesSmall sizes r → IsDecidedWithin loads sizes pes tolerance r
decided_within loads sizes pes tolerance r refined prices =
    record {
      refined = refined;
      blocks = blocks loads sizes pes tolerance r refined;
      naming = naming loads sizes pes tolerance r refined;
      peak = bottleneck_is loads sizes pes tolerance r refined;
      within = within loads sizes pes tolerance r refined;
      no_more = no_more loads sizes pes tolerance r refined;
      kept_whole = λ names present order inside. whole loads sizes pes tolerance r names present refined order inside;
      places = places loads sizes pes tolerance r refined;
      bounded = prices;
    }
