-- What follows from a decision in any order, whichever of the two it is.
use Rattle.std.proofs.Common.{◌≡◌, ℕ, ◌<◌, ◌≤◌, List, length, slice_index, arith, ap, sym, subst, inl, inr}
use Rattle.chare_index.specs.declared.limits.TheConstants.Limits.{PES}
use Rattle.lb_certificates.specs.Certificate.{IsCertified}
use Rattle.lb_certificates.specs.Chain.{IsDivision, peak}
use Rattle.lb_certificates.specs.Naming.{AreBlocks, block_of, blocks_between, IsNaming}
use Rattle.lb_certificates.proofs.BlockSums.{block_of_is}
use Rattle.lb_certificates.proofs.LeastDivisions.{peak_within}
use Rattle.lb_strategy.specs.Moves.{HasPlace, planned_pe}
use Rattle.chain_refinement.specs.Tolerances.{limit_of}
use Rattle.chain_refinement.proofs.Orders.{block_around}
use Rattle.any_order.specs.AnyOrder.{IsReordered, reordered_limit}
use Rattle.any_order.specs.declared.reordered.Reordered.{Reordered}
use Rattle.lb_strategy.specs.declared.decision.Decision.{Decision}
use Rattle.lb_refinement.specs.Refined.{ArePricesSmall, IsRefined, IsRefinedBy, least_by, least_load, refined_bottleneck, refined_cuts, refined_least, refined_moved, refined_names}
use Rattle.lb_refinement.specs.declared.nearness.Nearness.{Nearness}
use Rattle.lb_refinement.specs.declared.nearness.Nearness.TheVariants.{Planned, InOrder, InAnyOrder}
use Rattle.lb_refinement.specs.declared.refined.Refined.{Refined}
use Rattle.lb_any_order.specs.Reorderings.{ArePricesSmallBy, ArePricesSmallInOrder, Fewest, HasPlaceBelow, IsFewest, IsLesser, IsReordering, IsReorderingBy, reordered_of}

-- the division that a refined decision is measured from is certified
certified_by : {A : Type 0} (loads : List ℕ) (sizes : List (ℕ × ℕ)) (pes tolerance : ℕ) (d : Decision A) (n : Nearness A)
    → IsRefinedBy loads sizes pes tolerance d n → IsCertified loads pes (least_by d n)
certified_by loads sizes pes tolerance d Planned right = right.0.right.division
certified_by loads sizes pes tolerance d (InOrder p) right = right.0.right.least
certified_by loads sizes pes tolerance d (InAnyOrder p) right = absurd right

pub least_certified : {A : Type 0} (loads : List ℕ) (sizes : List (ℕ × ℕ)) (pes tolerance : ℕ) (r : Refined A) → IsRefined loads sizes pes tolerance r
    → IsCertified loads pes (refined_least r)
least_certified loads sizes pes tolerance r = certified_by loads sizes pes tolerance r.decision r.nearness

-- a refined decision is one that any order allows, and its prices are small
pub refined_is : {A : Type 0} (loads : List ℕ) (sizes : List (ℕ × ℕ)) (pes tolerance : ℕ) (d : Decision A) (n : Nearness A)
    → IsRefinedBy loads sizes pes tolerance d n → IsReorderingBy loads sizes pes tolerance d n
refined_is loads sizes pes tolerance d Planned refined = refined
refined_is loads sizes pes tolerance d (InOrder p) refined = refined
refined_is loads sizes pes tolerance d (InAnyOrder p) refined = absurd refined

pub priced_is : {A : Type 0} (sizes : List (ℕ × ℕ)) (d : Decision A) (n : Nearness A) → ArePricesSmall sizes (record { decision = d; nearness = n })
    → ArePricesSmallBy sizes d n
priced_is sizes d Planned small = small
priced_is sizes d (InOrder p) small = small
priced_is sizes d (InAnyOrder p) small = tt

-- the blocks of a plan
pub blocks_of_plan : {A : Type 0} (loads : List ℕ) (sizes : List (ℕ × ℕ)) (pes : ℕ) (r : Reordered A) → length loads ≡ length sizes
    → IsReordered loads sizes pes r → AreBlocks sizes r.cuts
blocks_of_plan loads sizes pes r paired right =
    let blocks : blocks_between r.cuts ≡ pes = omega (arith, right.plan.divides.counted) in
    record {
      some_block = omega (arith, blocks, right.some_pe);
      few_blocks = omega (arith, blocks, right.few_pes);
      divides = subst (λ n. IsDivision 0 (length sizes) n r.cuts) (sym blocks) (subst (λ n. IsDivision 0 n pes r.cuts) paired right.plan.divides);
    }

-- the names of a plan, by its cuts
pub naming_of_plan : {A : Type 0} (loads : List ℕ) (sizes : List (ℕ × ℕ)) (pes : ℕ) (r : Reordered A) → IsReordered loads sizes pes r → IsNaming (blocks_between r.cuts) r.names
naming_of_plan loads sizes pes r right =
    let blocks : blocks_between r.cuts ≡ pes = omega (arith, right.plan.divides.counted) in
    subst (λ n. IsNaming n r.names) (sym blocks) right.plan.naming

-- the division of a plan, by its names
pub division_of_plan : {A : Type 0} (loads : List ℕ) (sizes : List (ℕ × ℕ)) (pes : ℕ) (r : Reordered A) → length loads ≡ length sizes
    → IsReordered loads sizes pes r → IsDivision 0 (length sizes) (length r.names) r.cuts
division_of_plan loads sizes pes r paired right =
    subst (λ n. IsDivision 0 n (length r.names) r.cuts) paired (subst (λ b. IsDivision 0 (length loads) b r.cuts) (sym right.plan.naming.counted) right.plan.divides)

-- an element in this number of blocks has a place below that number
pub place_below : (n pes : ℕ) (cuts names : List ℕ) → IsDivision 0 n pes cuts → IsNaming pes names → pes ≤ PES → (i : ℕ) → i < n → HasPlaceBelow pes cuts names i
place_below n pes cuts names divides naming few i inside =
    let around = block_around cuts pes i (omega (arith, divides.starts)) (omega (arith, divides.ends, inside)) in
    let block : block_of cuts i ≡ around.0 = block_of_is n pes cuts around.0 i divides around.1 around.2 around.3 in
    let last : pes ≡ blocks_between cuts = omega (arith, divides.counted) in
    let below : planned_pe cuts names i < pes = subst (λ b. slice_index names b < pes) (sym block) (naming.below around.0 around.1) in
    record {
      place = record {
        starts = divides.starts;
        ordered = divides.ordered;
        inside = subst (λ b. i < slice_index cuts b) last (omega (arith, divides.ends, inside));
        named = omega (arith, block, around.1, naming.counted);
        pe = omega (arith, below, few);
      };
      below = below;
    }

-- the lesser of the two is a decision
pub lesser_is : {A : Type 0} (loads : List ℕ) (sizes : List (ℕ × ℕ)) (pes tolerance : ℕ) (refined : Refined A) (fewest : Fewest A) (r : Refined A)
    → IsRefined loads sizes pes tolerance refined → IsFewest loads sizes pes tolerance fewest → IsLesser refined fewest r
    → IsReordering loads sizes pes tolerance r
lesser_is loads sizes pes tolerance refined fewest r one other (inl same) =
    subst (IsReordering loads sizes pes tolerance) (sym same) (refined_is loads sizes pes tolerance refined.decision refined.nearness one)
lesser_is loads sizes pes tolerance refined fewest r one other (inr (same, no_more)) =
    subst (IsReordering loads sizes pes tolerance) (sym same) other

-- and it moves no more bytes than the decision in the present order
pub lesser_moves : {A : Type 0} (refined : Refined A) (fewest : Fewest A) (r : Refined A) (most : ℕ) → refined_moved refined ≡ most
    → IsLesser refined fewest r → refined_moved r ≤ most
lesser_moves refined fewest r most as_many (inl same) = omega (arith, ap refined_moved same, as_many)
lesser_moves refined fewest r most as_many (inr (same, no_more)) =
    omega (arith, ap refined_moved same, no_more, as_many)

-- no block of it is above the limit
fewest_within : {A : Type 0} (loads : List ℕ) (sizes : List (ℕ × ℕ)) (pes tolerance : ℕ) (f : Fewest A) → IsFewest loads sizes pes tolerance f
    → peak loads f.0.division.cuts ≤ limit_of f.1.least.bottleneck tolerance
fewest_within loads sizes pes tolerance f few =
    subst (λ t. peak loads f.0.division.cuts ≤ limit_of f.1.least.bottleneck t) few.tolerance_is
    (peak_within loads pes (reordered_limit (reordered_of f)) f.0.division.cuts few.right.plan.divides few.right.plan.within)

pub within : {A : Type 0} (loads : List ℕ) (sizes : List (ℕ × ℕ)) (pes tolerance : ℕ) (refined : Refined A) (fewest : Fewest A) (r : Refined A)
    → refined_bottleneck refined ≡ peak loads (refined_cuts refined) → refined_bottleneck refined ≤ limit_of (least_load refined) tolerance
    → IsFewest loads sizes pes tolerance fewest → IsLesser refined fewest r → peak loads (refined_cuts r) ≤ limit_of (least_load r) tolerance
within loads sizes pes tolerance refined fewest r heaviest low other (inl same) =
    subst (λ (q : Refined _). peak loads (refined_cuts q) ≤ limit_of (least_load q) tolerance) (sym same) (omega (arith, heaviest, low))
within loads sizes pes tolerance refined fewest r heaviest low other (inr (same, no_more)) =
    subst (λ (q : Refined _). peak loads (refined_cuts q) ≤ limit_of (least_load q) tolerance) (sym same) (fewest_within loads sizes pes tolerance fewest other)

-- a place by names below their number
pub below_names : (pes : ℕ) (cuts names : List ℕ) (i : ℕ) → IsNaming pes names → HasPlace cuts names i → HasPlaceBelow pes cuts names i
below_names pes cuts names i naming place =
    record { place = place; below = naming.below (block_of cuts i) (omega (arith, place.named, naming.counted)) }

-- the lesser has the places of one of the two
pub lesser_places : {A : Type 0} (pes i : ℕ) (refined : Refined A) (fewest : Fewest A) (r : Refined A)
    → HasPlaceBelow pes (refined_cuts refined) (refined_names refined) i → HasPlaceBelow pes fewest.0.division.cuts fewest.0.naming i
    → IsLesser refined fewest r → HasPlaceBelow pes (refined_cuts r) (refined_names r) i
lesser_places pes i refined fewest r one other (inl same) =
    subst (λ (q : Refined _). HasPlaceBelow pes (refined_cuts q) (refined_names q) i) (sym same) one
lesser_places pes i refined fewest r one other (inr (same, no_more)) =
    subst (λ (q : Refined _). HasPlaceBelow pes (refined_cuts q) (refined_names q) i) (sym same) other

-- the lesser has small prices, where it is the one in the present order
pub lesser_prices : {A : Type 0} (sizes : List (ℕ × ℕ)) (refined : Refined A) (fewest : Fewest A) (r : Refined A) → ArePricesSmall sizes refined
    → IsLesser refined fewest r → ArePricesSmallInOrder sizes r
lesser_prices sizes refined fewest r small (inl same) =
    subst (ArePricesSmallInOrder sizes) (sym same) (priced_is sizes refined.decision refined.nearness small)
lesser_prices sizes refined fewest r small (inr (same, no_more)) = subst (ArePricesSmallInOrder sizes) (sym same) tt
