-- What follows from a decision that keeps the order of the PEs, whichever of the two it is.
use Rattle.std.proofs.Common.{◌≡◌, ℕ, ◌<◌, ◌≤◌, List, length, slice_index, arith, ap, sym, ◌∙◌, subst}
use Rattle.chain_partition.proofs.ChosenOnce.{only_from_chosen}
use Rattle.chare_index.specs.declared.limits.TheConstants.Limits.{PES}
use Rattle.lb_certificates.specs.Chain.{IsDivision, peak}
use Rattle.lb_certificates.specs.Naming.{block_of, blocks_between, bytes_moved, IsNaming}
use Rattle.lb_certificates.specs.declared.division.Division.{Division}
use Rattle.lb_certificates.proofs.BlockSums.{block_of_is}
use Rattle.lb_certificates.proofs.Chains.{peak-le}
use Rattle.lb_strategy.specs.Moves.{moves_below, HasPlace}
use Rattle.lb_strategy.proofs.RightDecisions.{least_from_right}
use Rattle.chain_refinement.specs.Orders.{IsPresentOrder}
use Rattle.chain_refinement.specs.Refinement.{AreNearest, AreWithin, refined_limit}
use Rattle.chain_refinement.specs.Tolerances.{limit_of}
use Rattle.chain_refinement.proofs.Nearest.{one_is_nearest}
use Rattle.chain_refinement.proofs.Orders.{block_around}
use Rattle.chain_refinement.proofs.OneOrder.{one_order}
use Rattle.lb_strategy.specs.declared.decision.Decision.{Decision}
use Rattle.lb_refinement.specs.InOrder.{IsInOrderBy, IsKeptInOrder, IsRefinedInOrder, ordered_of}
use Rattle.lb_refinement.specs.Refined.{AreSame, Kept, least_by, least_load, refined_bottleneck, refined_cuts, refined_moved, refined_names}
use Rattle.lb_refinement.specs.declared.nearness.Nearness.{Nearness}
use Rattle.lb_refinement.specs.declared.nearness.Nearness.TheVariants.{Planned, InOrder, InAnyOrder}
use Rattle.lb_refinement.specs.declared.refined.Refined.{Refined}
use Rattle.lb_refinement.proofs.KeptWhole.{none_moves}
use Rattle.lb_refinement.proofs.OneRefined.{AreAlike, one_planned}

module _ {A : Type 0} (loads : List ℕ) (sizes : List (ℕ × ℕ)) (pes tolerance : ℕ) where
  blocks_by : (d : Decision A) (n : Nearness A) → IsInOrderBy loads sizes pes tolerance d n → IsDivision 0 (length loads) pes d.division.cuts
  blocks_by d Planned refined = refined.0.right.division.divides
  blocks_by d (InOrder p) kept =
      subst (λ n. IsDivision 0 (length loads) n d.division.cuts) kept.order.naming.counted kept.right.proved.within.divides
  blocks_by d (InAnyOrder p) refined = absurd refined

  naming_by : (d : Decision A) (n : Nearness A) → IsInOrderBy loads sizes pes tolerance d n → IsNaming pes d.naming
  naming_by d Planned refined = refined.0.least_naming.naming
  naming_by d (InOrder p) kept = kept.order.naming
  naming_by d (InAnyOrder p) refined = absurd refined

  bottleneck_by : (d : Decision A) (n : Nearness A) → IsInOrderBy loads sizes pes tolerance d n → d.division.bottleneck ≡ peak loads d.division.cuts
  bottleneck_by d Planned refined = sym (least_from_right loads sizes pes d refined.0.right).peak_is
  bottleneck_by d (InOrder p) kept = kept.bottleneck_is
  bottleneck_by d (InAnyOrder p) refined = absurd refined

  peak_by : (d : Decision A) (n : Nearness A) → IsInOrderBy loads sizes pes tolerance d n → peak loads d.division.cuts ≤ limit_of (least_by d n).bottleneck tolerance
  peak_by d Planned refined =
      omega (arith, (least_from_right loads sizes pes d refined.0.right).peak_is)
  peak_by d (InOrder p) kept =
      let inside = kept.right.proved.within in
      let most : peak loads d.division.cuts ≤ refined_limit (ordered_of (d, p)) = peak-le loads d.division.cuts (refined_limit (ordered_of (d, p)))
      (λ b before. inside.within b (omega (arith, inside.divides.counted))) in
      subst (λ t. peak loads d.division.cuts ≤ limit_of p.least.bottleneck t) kept.tolerance_is most
  peak_by d (InAnyOrder p) refined = absurd refined

  moved_by : (d : Decision A) (n : Nearness A) → IsInOrderBy loads sizes pes tolerance d n → d.moved ≡ bytes_moved sizes d.division.cuts d.naming
  moved_by d Planned refined = refined.0.right.moved
  moved_by d (InOrder p) kept = kept.moved_is
  moved_by d (InAnyOrder p) refined = absurd refined

  keeps_by : (d : Decision A) (n : Nearness A) (names present : List ℕ) → IsInOrderBy loads sizes pes tolerance d n → IsPresentOrder sizes pes names present → d.naming ≡ names
  keeps_by d Planned names present refined order =
      absurd (refined.1 names present order.naming order.in_order)
  keeps_by d (InOrder p) names present kept order =
      (one_order sizes pes d.naming p.present names present kept.order order).0
  keeps_by d (InAnyOrder p) names present refined order = absurd refined

  nearest_by : (d : Decision A) (n : Nearness A) (names present : List ℕ) → IsInOrderBy loads sizes pes tolerance d n → IsPresentOrder sizes pes names present
      → AreNearest loads sizes names present (limit_of (least_by d n).bottleneck tolerance) d.division.cuts
  nearest_by d Planned names present refined order =
      absurd (refined.1 names present order.naming order.in_order)
  nearest_by d (InOrder p) names present kept order =
      let orders = one_order sizes pes d.naming p.present names present kept.order order in
      let limited = subst (λ t. AreNearest loads sizes d.naming p.present (limit_of p.least.bottleneck t)
      d.division.cuts) kept.tolerance_is kept.nearest in
      let in_order = subst (λ ns. AreNearest loads sizes ns p.present (limit_of p.least.bottleneck tolerance) d.division.cuts) orders.0 limited in
      subst (λ ps. AreNearest loads sizes names ps (limit_of p.least.bottleneck tolerance) d.division.cuts) orders.1 in_order
  nearest_by d (InAnyOrder p) names present refined order = absurd refined

pub blocks : {A : Type 0} (loads : List ℕ) (sizes : List (ℕ × ℕ)) (pes tolerance : ℕ) (r : Refined A)
    → IsRefinedInOrder loads sizes pes tolerance r → IsDivision 0 (length loads) pes (refined_cuts r)
blocks loads sizes pes tolerance r = blocks_by loads sizes pes tolerance r.decision r.nearness

pub naming : {A : Type 0} (loads : List ℕ) (sizes : List (ℕ × ℕ)) (pes tolerance : ℕ) (r : Refined A)
    → IsRefinedInOrder loads sizes pes tolerance r → IsNaming pes (refined_names r)
naming loads sizes pes tolerance r = naming_by loads sizes pes tolerance r.decision r.nearness

pub bottleneck_is : {A : Type 0} (loads : List ℕ) (sizes : List (ℕ × ℕ)) (pes tolerance : ℕ) (r : Refined A)
    → IsRefinedInOrder loads sizes pes tolerance r → refined_bottleneck r ≡ peak loads (refined_cuts r)
bottleneck_is loads sizes pes tolerance r = bottleneck_by loads sizes pes tolerance r.decision r.nearness

pub within : {A : Type 0} (loads : List ℕ) (sizes : List (ℕ × ℕ)) (pes tolerance : ℕ) (r : Refined A)
    → IsRefinedInOrder loads sizes pes tolerance r → refined_bottleneck r ≤ limit_of (least_load r) tolerance
within loads sizes pes tolerance r refined =
    subst (λ n. n ≤ limit_of (least_load r) tolerance) (sym (bottleneck_is loads sizes pes tolerance r refined))
    (peak_by loads sizes pes tolerance r.decision r.nearness refined)

pub moved : {A : Type 0} (loads : List ℕ) (sizes : List (ℕ × ℕ)) (pes tolerance : ℕ) (r : Refined A)
    → IsRefinedInOrder loads sizes pes tolerance r → refined_moved r ≡ bytes_moved sizes (refined_cuts r) (refined_names r)
moved loads sizes pes tolerance r = moved_by loads sizes pes tolerance r.decision r.nearness

pub keeps_order : {A : Type 0} (loads : List ℕ) (sizes : List (ℕ × ℕ)) (pes tolerance : ℕ) (r : Refined A) (names present : List ℕ)
    → IsRefinedInOrder loads sizes pes tolerance r → IsPresentOrder sizes pes names present → refined_names r ≡ names
keeps_order loads sizes pes tolerance r = keeps_by loads sizes pes tolerance r.decision r.nearness

pub nearest : {A : Type 0} (loads : List ℕ) (sizes : List (ℕ × ℕ)) (pes tolerance : ℕ) (r : Refined A) (names present : List ℕ)
    → IsRefinedInOrder loads sizes pes tolerance r → IsPresentOrder sizes pes names present
    → AreNearest loads sizes names present (limit_of (least_load r) tolerance) (refined_cuts r)
nearest loads sizes pes tolerance r = nearest_by loads sizes pes tolerance r.decision r.nearness

-- where the present blocks are within the limit, nothing moves
pub whole : {A : Type 0} (loads : List ℕ) (sizes : List (ℕ × ℕ)) (pes tolerance : ℕ) (r : Refined A) (names present : List ℕ)
    → IsRefinedInOrder loads sizes pes tolerance r → IsPresentOrder sizes pes names present
    → AreWithin loads names (limit_of (least_load r) tolerance) present → refined_moved r ≡ 0
whole loads sizes pes tolerance r names present refined order inside =
    let few = (nearest loads sizes pes tolerance r names present refined order).fewest.fewest present inside in
    let none = none_moves sizes names present order.in_order in
    let called = keeps_order loads sizes pes tolerance r names present refined order in
    let moves : refined_moved r ≡ bytes_moved sizes (refined_cuts r) names = moved loads sizes pes tolerance r refined ∙ ap (bytes_moved sizes (refined_cuts r)) called in
    omega (arith, few, none, moves)

-- each element of blocks with names has a place
named_place : (sizes : List (ℕ × ℕ)) (cuts names : List ℕ) (pes i : ℕ) → pes ≤ PES → IsDivision 0 (length sizes) pes cuts
    → IsNaming pes names → i < length sizes → HasPlace cuts names i
named_place sizes cuts names pes i few division called inside =
    let around = block_around cuts pes i (omega (arith, division.starts)) (omega (arith, division.ends, inside)) in
    let block : block_of cuts i ≡ around.0 = block_of_is (length sizes) pes cuts around.0 i division around.1 around.2 around.3 in
    let last : pes ≡ blocks_between cuts = omega (arith, division.counted) in
    record {
      starts = division.starts;
      ordered = division.ordered;
      inside = subst (λ n. i < slice_index cuts n) last (omega (arith, division.ends, inside));
      named = omega (arith, block, around.1, called.counted);
      pe = omega (arith, called.below (block_of cuts i) (omega (arith, block, around.1)), few);
    }

pub places : {A : Type 0} (loads : List ℕ) (sizes : List (ℕ × ℕ)) (pes tolerance : ℕ) (r : Refined A) → pes ≤ PES
    → length loads ≡ length sizes → IsRefinedInOrder loads sizes pes tolerance r → (i : ℕ) → i < length sizes → HasPlace (refined_cuts r) (refined_names r) i
places loads sizes pes tolerance r few paired refined i inside =
    named_place sizes (refined_cuts r) (refined_names r) pes i few
    (subst (λ n. IsDivision 0 n pes (refined_cuts r)) paired (blocks loads sizes pes tolerance r refined))
    (naming loads sizes pes tolerance r refined) inside

-- two decisions that keep the order are the same, except for heights and prices
same_kept : {A : Type 0} (loads : List ℕ) (sizes : List (ℕ × ℕ)) (pes tolerance : ℕ) (k e : Kept A)
    → IsKeptInOrder loads sizes pes tolerance k → IsKeptInOrder loads sizes pes tolerance e → AreAlike k.0 e.0
same_kept {A = A} loads sizes pes tolerance k e one other =
    record {
      cuts = cuts;
      names = orders.0;
      bottleneck = one.bottleneck_is ∙ ap (peak loads) cuts ∙ sym other.bottleneck_is;
      moved = one.moved_is ∙ ap (λ xs. bytes_moved sizes xs k.0.naming) cuts ∙ ap (bytes_moved sizes e.0.division.cuts) orders.0 ∙ sym other.moved_is;
      moves = one.moves_are ∙ ap (λ xs. moves_below sizes xs k.0.naming (length sizes)) cuts
          ∙ ap (λ xs. moves_below sizes e.0.division.cuts xs (length sizes)) orders.0 ∙ sym other.moves_are;
    }
  where
    orders : (k.0.naming ≡ e.0.naming) × (k.1.present ≡ e.1.present)
    orders = one_order sizes pes k.0.naming k.1.present e.0.naming e.1.present one.order other.order

    division : k.1.least ≡ e.1.least
    division = only_from_chosen loads pes e.1.least other.chosen k.1.least one.chosen

    limit : refined_limit (ordered_of k) ≡ refined_limit (ordered_of e)
    limit = ap (λ (d : Division A). limit_of d.bottleneck k.1.tolerance) division ∙ ap (limit_of e.1.least.bottleneck) (one.tolerance_is ∙ sym other.tolerance_is)

    near : AreNearest loads sizes e.0.naming e.1.present (refined_limit (ordered_of e)) k.0.division.cuts
    near = subst (λ n. AreNearest loads sizes e.0.naming e.1.present n k.0.division.cuts) limit
        (subst (λ ns. AreNearest loads sizes ns e.1.present (refined_limit (ordered_of k)) k.0.division.cuts) orders.0
        (subst (λ ps. AreNearest loads sizes k.0.naming ps (refined_limit (ordered_of k)) k.0.division.cuts) orders.1 one.nearest))

    cuts : k.0.division.cuts ≡ e.0.division.cuts
    cuts = one_is_nearest loads sizes e.0.naming e.1.present (refined_limit (ordered_of e)) k.0.division.cuts e.0.division.cuts near other.nearest

one_by : {A : Type 0} (loads : List ℕ) (sizes : List (ℕ × ℕ)) (pes tolerance : ℕ) (d : Decision A) (n : Nearness A) (e : Decision A) (m : Nearness A)
    → IsInOrderBy loads sizes pes tolerance d n → IsInOrderBy loads sizes pes tolerance e m → AreAlike d e
one_by loads sizes pes tolerance d Planned e Planned one other =
    let same = one_planned loads sizes pes d e one.0 other.0 in
    record { cuts = same.cuts; names = same.naming; bottleneck = same.bottleneck; moved = same.moved; moves = same.moves }
one_by loads sizes pes tolerance d (InOrder p) e (InOrder q) one other =
    same_kept loads sizes pes tolerance (d, p) (e, q) one other
one_by loads sizes pes tolerance d Planned e (InOrder q) one other =
    absurd (one.1 e.naming q.present other.order.naming other.order.in_order)
one_by loads sizes pes tolerance d (InOrder p) e Planned one other =
    absurd (other.1 d.naming p.present one.order.naming one.order.in_order)
one_by loads sizes pes tolerance d (InAnyOrder p) e m one other = absurd one
one_by loads sizes pes tolerance d Planned e (InAnyOrder q) one other = absurd other
one_by loads sizes pes tolerance d (InOrder p) e (InAnyOrder q) one other = absurd other

pub one_in_order : {A : Type 0} (loads : List ℕ) (sizes : List (ℕ × ℕ)) (pes tolerance : ℕ) (one other : Refined A)
    → IsRefinedInOrder loads sizes pes tolerance one → IsRefinedInOrder loads sizes pes tolerance other → AreSame one other
one_in_order loads sizes pes tolerance r s one other =
    let same = one_by loads sizes pes tolerance r.decision r.nearness s.decision s.nearness one other in
    record { cuts = same.cuts; names = same.names; bottleneck = same.bottleneck; moved = same.moved; moves = same.moves }
