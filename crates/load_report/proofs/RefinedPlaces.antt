-- The places and moves of a decision within a tolerance, whichever of the two it is.
use Rattle.std.proofs.Common.{◌≡◌, ℕ, ◌<◌, List, length, arith}
use Rattle.lb_certificates.specs.Naming.{blocks_between, bytes_moved}
use Rattle.lb_refinement.specs.Refined.{refined_cuts, refined_moved, refined_moves, refined_names}
use Rattle.lb_refinement.specs.Refined.{IsRefinedBy}
use Rattle.lb_refinement.specs.declared.nearness.Nearness.{Nearness}
use Rattle.lb_refinement.specs.declared.nearness.Nearness.TheVariants.{Planned, InOrder, InAnyOrder}
use Rattle.lb_refinement.specs.declared.refined.Refined.{Refined}
use Rattle.lb_refinement.proofs.RefinedCases.{places}
use Rattle.lb_strategy.specs.Moves.{HasPlace, moves_below}
use Rattle.lb_strategy.specs.declared.decision.Decision.{Decision}
use Rattle.load_report.specs.Figures.{IsPlacement, IsRefinedFor, planned_places}
use Rattle.load_report.proofs.Placements.{named_placed, planned_placed}

module _ {A : Type 0} (loads : List ℕ) (sizes : List (ℕ × ℕ)) (p : ℕ) where
  moved_by : (t : ℕ) (d : Decision A) (n : Nearness A) → IsRefinedBy loads sizes p t d n → d.moved ≡ bytes_moved sizes d.division.cuts d.naming
  moved_by t d Planned refined = refined.0.right.moved
  moved_by t d (InOrder proof) refined = refined.0.moved_is
  moved_by t d (InAnyOrder proof) refined = absurd refined

  pub moved_is : (r : Refined A) → IsRefinedFor loads sizes p r → refined_moved r ≡ bytes_moved sizes (refined_cuts r) (refined_names r)
  moved_is r (t, refined) = moved_by t r.decision r.nearness refined

  moves_by : (t : ℕ) (d : Decision A) (n : Nearness A) → IsRefinedBy loads sizes p t d n → d.moves ≡ moves_below sizes d.division.cuts d.naming (length sizes)
  moves_by t d Planned refined = refined.0.right.moves
  moves_by t d (InOrder proof) refined = refined.0.moves_are
  moves_by t d (InAnyOrder proof) refined = absurd refined

  pub moves_are : (r : Refined A) → IsRefinedFor loads sizes p r → refined_moves r ≡ moves_below sizes (refined_cuts r) (refined_names r) (length sizes)
  moves_are r (t, refined) = moves_by t r.decision r.nearness refined

  pub place_from_refined : (r : Refined A) → IsRefinedFor loads sizes p r → (i : ℕ) → i < length sizes → HasPlace (refined_cuts r) (refined_names r) i
  place_from_refined r (t, refined) = places loads sizes p t r refined

  placed_by : (t : ℕ) (d : Decision A) (n : Nearness A) → IsRefinedBy loads sizes p t d n → length loads ≡ length sizes
      → IsPlacement loads (planned_places d.division.cuts d.naming (length sizes)) p
  placed_by t d Planned refined paired = planned_placed loads sizes p d refined.0.right paired
  placed_by t d (InOrder proof) refined paired =
      let kept = refined.0 in
      let blocks : blocks_between d.division.cuts ≡ p = omega (arith, kept.right.proved.within.divides.counted, kept.right.order.counted) in
      named_placed loads sizes p d.division.cuts d.naming d.prices.u d.prices.v kept.named blocks paired
  placed_by t d (InAnyOrder proof) refined paired = absurd refined

  pub refined_placed : (r : Refined A) → IsRefinedFor loads sizes p r → length loads ≡ length sizes
      → IsPlacement loads (planned_places (refined_cuts r) (refined_names r) (length sizes)) p
  refined_placed r (t, refined) = placed_by t r.decision r.nearness refined
