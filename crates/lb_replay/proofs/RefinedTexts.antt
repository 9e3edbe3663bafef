-- What the text of a decision within a tolerance needs.
use Rattle.std.proofs.Common.{◌≡◌, ℕ, List, length, subst, sym}
use Rattle.chain_partition.specs.Chosen.{IsChosen}
use Rattle.lb_certificates.specs.Certificate.{IsCertified}
use Rattle.lb_certificates.specs.Chain.{IsDivision}
use Rattle.lb_strategy.specs.declared.decision.Decision.{Decision}
use Rattle.lb_refinement.specs.InOrder.{IsInOrderBy, IsRefinedInOrder}
use Rattle.lb_refinement.specs.Refined.{IsRefined, IsRefinedBy, least_by, refined_cuts, refined_least, refined_names}
use Rattle.lb_refinement.specs.declared.nearness.Nearness.{Nearness}
use Rattle.lb_refinement.specs.declared.nearness.Nearness.TheVariants.{Planned, InOrder, InAnyOrder}
use Rattle.lb_refinement.specs.declared.refined.Refined.{Refined}
use Rattle.lb_refinement.proofs.InOrderCases as Ordered
use Rattle.lb_refinement.proofs.RefinedCases as Near
use Rattle.lb_any_order.proofs.Decided as Any
use Rattle.lb_any_order.specs.Reorderings.{IsReordering}
use Rattle.lb_replay.specs.Text.{IsPrintable}

module _ {A : Type 0} (loads : List ℕ) (sizes : List (ℕ × ℕ)) (p tolerance : ℕ) where
  -- a name for each block, and as many blocks as names
  printable : (r : Refined A) → length (refined_names r) ≡ p → IsDivision 0 (length loads) p (refined_cuts r) → IsCertified loads p (refined_least r)
      → IsPrintable loads p r
  printable r named divides certified =
      record {
        named = named;
        divides = subst (λ n. IsDivision 0 (length loads) n (refined_cuts r)) (sym named) divides;
        certified = certified;
      }

  certified_by : (d : Decision A) (n : Nearness A) → IsRefinedBy loads sizes p tolerance d n → IsCertified loads p (least_by d n)
  certified_by d Planned refined = refined.0.right.division
  certified_by d (InOrder proof) refined = refined.0.right.least
  certified_by d (InAnyOrder proof) refined = absurd refined

  pub printable_from_refined : (r : Refined A) → IsRefined loads sizes p tolerance r → IsPrintable loads p r
  printable_from_refined r refined =
      printable r (Near.naming loads sizes p tolerance r refined).counted (Near.blocks loads sizes p tolerance r refined)
      (certified_by r.decision r.nearness refined)

  pub printable_from_reordering : (r : Refined A) → IsReordering loads sizes p tolerance r → IsPrintable loads p r
  printable_from_reordering r decided =
      printable r (Any.naming loads sizes p tolerance r decided).counted (Any.blocks loads sizes p tolerance r decided)
      (Any.certified loads sizes p tolerance r decided)

  ordered_by : (d : Decision A) (n : Nearness A) → IsInOrderBy loads sizes p tolerance d n → IsCertified loads p (least_by d n)
  ordered_by d Planned refined = refined.0.right.division
  ordered_by d (InOrder proof) kept = kept.right.least
  ordered_by d (InAnyOrder proof) refined = absurd refined

  pub printable_from_ordered : (r : Refined A) → IsRefinedInOrder loads sizes p tolerance r → IsPrintable loads p r
  printable_from_ordered r refined =
      printable r (Ordered.naming loads sizes p tolerance r refined).counted (Ordered.blocks loads sizes p tolerance r refined)
      (ordered_by r.decision r.nearness refined)

  -- the division that the limit is measured from is the chosen one
  chosen_by : (d : Decision A) (n : Nearness A) → IsRefinedBy loads sizes p tolerance d n → IsChosen loads p (least_by d n)
  chosen_by d Planned refined = refined.0.chosen
  chosen_by d (InOrder proof) refined = refined.0.chosen
  chosen_by d (InAnyOrder proof) refined = absurd refined

  pub chosen_from_refined : (r : Refined A) → IsRefined loads sizes p tolerance r → IsChosen loads p (refined_least r)
  chosen_from_refined r = chosen_by r.decision r.nearness

  ordered_chosen_by : (d : Decision A) (n : Nearness A) → IsInOrderBy loads sizes p tolerance d n → IsChosen loads p (least_by d n)
  ordered_chosen_by d Planned refined = refined.0.chosen
  ordered_chosen_by d (InOrder proof) kept = kept.chosen
  ordered_chosen_by d (InAnyOrder proof) refined = absurd refined

  pub chosen_from_ordered : (r : Refined A) → IsRefinedInOrder loads sizes p tolerance r → IsChosen loads p (refined_least r)
  chosen_from_ordered r = ordered_chosen_by r.decision r.nearness
