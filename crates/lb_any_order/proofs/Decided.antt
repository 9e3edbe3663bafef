-- What every decision in any order has, whichever of the two it is.
use Rattle.std.proofs.Common.{◌≡◌, ℕ, List, length, arith, subst, sym}
use Rattle.lb_certificates.specs.Certificate.{IsCertified, NoneAbove}
use Rattle.lb_certificates.specs.Chain.{IsDivision, peak}
use Rattle.lb_certificates.specs.Naming.{IsNaming}
use Rattle.chain_refinement.specs.Orders.{IsPresentOrder}
use Rattle.chain_refinement.specs.Refinement.{AreWithin}
use Rattle.chain_refinement.specs.Tolerances.{limit_of}
use Rattle.any_order.specs.AnyOrder.{reordered_limit}
use Rattle.lb_refinement.proofs.KeptWhole.{none_moves, whole}
use Rattle.lb_refinement.proofs.RefinedCases as Refined
use Rattle.lb_strategy.specs.declared.decision.Decision.{Decision}
use Rattle.lb_refinement.specs.Refined.{least_by, least_load, refined_bottleneck, refined_cuts, refined_least, refined_moved, refined_names}
use Rattle.lb_refinement.specs.declared.nearness.Nearness.{Nearness}
use Rattle.lb_refinement.specs.declared.nearness.Nearness.TheVariants.{Planned, InOrder, InAnyOrder}
use Rattle.lb_refinement.specs.declared.refined.Refined.{Refined}
use Rattle.lb_any_order.proofs.Cases.{least_certified}
use Rattle.lb_any_order.specs.Reorderings.{IsReordering, IsReorderingBy, reordered_of}

module _ {A : Type 0} (loads : List ℕ) (sizes : List (ℕ × ℕ)) (pes tolerance : ℕ) where
  -- a decision with what proves it
  abbrev pair : Decision A → Nearness A → Refined A
  pair d n = record { decision = d; nearness = n }

  -- as many blocks as PEs
  blocks_by : (d : Decision A) (n : Nearness A) → IsReorderingBy loads sizes pes tolerance d n → IsDivision 0 (length loads) pes d.division.cuts
  blocks_by d Planned refined = Refined.blocks loads sizes pes tolerance (pair d Planned) refined
  blocks_by d (InOrder p) refined = Refined.blocks loads sizes pes tolerance (pair d (InOrder p)) refined
  blocks_by d (InAnyOrder p) few = few.right.plan.divides

  pub blocks : (r : Refined A) → IsReordering loads sizes pes tolerance r → IsDivision 0 (length loads) pes (refined_cuts r)
  blocks r = blocks_by r.decision r.nearness

  -- a PE of its own for each
  naming_by : (d : Decision A) (n : Nearness A) → IsReorderingBy loads sizes pes tolerance d n → IsNaming pes d.naming
  naming_by d Planned refined = Refined.naming loads sizes pes tolerance (pair d Planned) refined
  naming_by d (InOrder p) refined = Refined.naming loads sizes pes tolerance (pair d (InOrder p)) refined
  naming_by d (InAnyOrder p) few = few.right.plan.naming

  pub naming : (r : Refined A) → IsReordering loads sizes pes tolerance r → IsNaming pes (refined_names r)
  naming r = naming_by r.decision r.nearness

  -- the bottleneck is the load of the heaviest block
  bottleneck_by : (d : Decision A) (n : Nearness A) → IsReorderingBy loads sizes pes tolerance d n → d.division.bottleneck ≡ peak loads d.division.cuts
  bottleneck_by d Planned refined = Refined.bottleneck_is loads sizes pes tolerance (pair d Planned) refined
  bottleneck_by d (InOrder p) refined = Refined.bottleneck_is loads sizes pes tolerance (pair d (InOrder p)) refined
  bottleneck_by d (InAnyOrder p) few = few.bottleneck_is

  pub bottleneck : (r : Refined A) → IsReordering loads sizes pes tolerance r → refined_bottleneck r ≡ peak loads (refined_cuts r)
  bottleneck r = bottleneck_by r.decision r.nearness

  -- the division that the limit is measured from is certified
  certified_by : (d : Decision A) (n : Nearness A) → IsReorderingBy loads sizes pes tolerance d n → IsCertified loads pes (least_by d n)
  certified_by d Planned refined = least_certified loads sizes pes tolerance (pair d Planned) refined
  certified_by d (InOrder p) refined = least_certified loads sizes pes tolerance (pair d (InOrder p)) refined
  certified_by d (InAnyOrder p) few = few.right.least

  pub certified : (r : Refined A) → IsReordering loads sizes pes tolerance r → IsCertified loads pes (refined_least r)
  certified r = certified_by r.decision r.nearness

  -- nothing moves where the present places keep to the limit
  nothing_by : (d : Decision A) (n : Nearness A) (names present : List ℕ) → IsReorderingBy loads sizes pes tolerance d n → IsPresentOrder sizes pes names present
      → AreWithin loads names (limit_of (least_by d n).bottleneck tolerance) present → d.moved ≡ 0
  nothing_by d Planned names present decided order within =
      whole loads sizes pes tolerance (pair d Planned) names present decided order within
  nothing_by d (InOrder p) names present decided order within =
      whole loads sizes pes tolerance (pair d (InOrder p)) names present decided order within
  nothing_by d (InAnyOrder p) names present few order within =
      let counted : length names ≡ pes = order.naming.counted in
      let in_order : NoneAbove loads pes (limit_of p.least.bottleneck tolerance) present = subst
      (λ n. NoneAbove loads n (limit_of p.least.bottleneck tolerance) present) counted within.within in
      let below : NoneAbove loads pes (reordered_limit (reordered_of (d, p))) present = subst
      (λ t. NoneAbove loads pes (limit_of p.least.bottleneck t) present) (sym few.tolerance_is) in_order in
      let divides : IsDivision 0 (length loads) pes present = subst (λ n. IsDivision 0 (length loads) n present) counted within.divides in
      let less = few.fewest.fewest present names (record { divides = divides; within = below; naming = order.naming }) in
      omega (arith, few.moved_is, less, none_moves sizes names present order.in_order)

  pub nothing_moves : (r : Refined A) (names present : List ℕ) → IsReordering loads sizes pes tolerance r → IsPresentOrder sizes pes names present
      → AreWithin loads names (limit_of (least_load r) tolerance) present → refined_moved r ≡ 0
  nothing_moves r = nothing_by r.decision r.nearness
