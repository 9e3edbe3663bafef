-- Where the elements are placed by a decision within a tolerance, no PE is above the limit.
use Rattle.std.proofs.Common.{◌≡◌, ◌≤◌, ℕ, List, length, arith, subst, sym}
use Rattle.chain_refinement.specs.Tolerances.{limit_of}
use Rattle.lb_certificates.specs.Chain.{IsDivision}
use Rattle.lb_refinement.specs.Refined.{IsRefined, refined_cuts, refined_least, refined_names}
use Rattle.lb_refinement.specs.declared.refined.Refined.{Refined}
use Rattle.lb_refinement.proofs.RefinedCases.{blocks, bottleneck_is, naming, within}
use Rattle.load_report.specs.Figures.{greatest, load_of, planned_places}
use Rattle.load_report.proofs.PlannedLoads.{placed_greatest}

pub refined_greatest : {A : Type 0} (loads : List ℕ) (sizes : List (ℕ × ℕ)) (pes tolerance : ℕ) (r : Refined A)
    → length loads ≡ length sizes → IsRefined loads sizes pes tolerance r
    → greatest pes (load_of loads (planned_places (refined_cuts r) (refined_names r) (length sizes))) ≤ limit_of (refined_least r).bottleneck tolerance
refined_greatest loads sizes pes tolerance r paired refined =
    let division : IsDivision 0 (length sizes) pes (refined_cuts r) = subst (λ m. IsDivision 0 m pes (refined_cuts r)) paired (blocks loads sizes pes tolerance r refined) in
    let greatest_is = placed_greatest loads (refined_cuts r) (refined_names r) pes (length sizes) (sym paired) division (naming loads sizes pes tolerance r refined) in
    omega (arith, greatest_is, bottleneck_is loads sizes pes tolerance r refined, within loads sizes pes tolerance r refined)
