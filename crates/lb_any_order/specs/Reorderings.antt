-- Decisions within a tolerance where the PEs may change their order.
use Rattle.std.specs.Prelude.{◌≡◌, ◌⊎◌, ℕ, ◌<◌, ◌≤◌, List, [], length}
use Rattle.lb_certificates.specs.Chain.{peak}
use Rattle.lb_certificates.specs.Naming.{bytes_moved}
use Rattle.lb_certificates.specs.declared.division.Floor.TheVariants.{Zero}
use Rattle.lb_strategy.specs.Moves.{HasPlace, moves_below, planned_pe}
use Rattle.lb_strategy.specs.declared.decision.Decision.{Decision}
use Rattle.any_order.specs.AnyOrder.{AreFewestOfAll, IsReordered, reordered_limit}
use Rattle.any_order.specs.declared.reordered.Reordered.{Reordered}
use Rattle.lb_refinement.specs.Refined.{ArePricesSmall, IsRefinedBy, refined_moved}
use Rattle.lb_refinement.specs.declared.nearness.AnyOrderProof.{AnyOrderProof}
use Rattle.lb_refinement.specs.declared.nearness.Nearness.{Nearness}
use Rattle.lb_refinement.specs.declared.nearness.Nearness.TheVariants.{InAnyOrder}
use Rattle.lb_refinement.specs.declared.refined.Refined.{Refined}

-- a decision in any order, with its proof; and what a checker is shown of the two
abbrev pub Fewest : Type 0 → Type 0
Fewest A = Decision A × AnyOrderProof A

abbrev pub reordered_of : {A : Type 0} → Fewest A → Reordered A
reordered_of f =
    record { least = f.1.least; tolerance = f.1.tolerance; cuts = f.0.division.cuts; names = f.0.naming; any = f.1.any; free = f.1.free }

-- Cuts and names within the tolerance that move the fewest bytes of all, with their proof. The floor claims nothing, and there are
-- no prices.
pub record IsFewest {A : Type 0} (loads : List ℕ) (sizes : List (ℕ × ℕ)) (pes tolerance : ℕ) (f : Fewest A) : Type 0 where
  pub right : IsReordered loads sizes pes (reordered_of f)
  pub tolerance_is : f.1.tolerance ≡ tolerance
  pub fewest : AreFewestOfAll loads sizes pes (reordered_limit (reordered_of f)) f.0.division.cuts f.0.naming
  pub bottleneck_is : f.0.division.bottleneck ≡ peak loads f.0.division.cuts
  pub no_floor : f.0.division.floor ≡ Zero
  pub no_u : f.0.prices.u ≡ []
  pub no_v : f.0.prices.v ≡ []
  pub moved_is : f.0.moved ≡ bytes_moved sizes f.0.division.cuts f.0.naming
  pub moves_are : f.0.moves ≡ moves_below sizes f.0.division.cuts f.0.naming (length sizes)

-- The decision: cuts and names that move the fewest bytes of all, or the one in the present order.
abbrev pub IsReorderingBy : {A : Type 0} → List ℕ → List (ℕ × ℕ) → ℕ → ℕ → Decision A → Nearness A → Type 0
IsReorderingBy loads sizes pes tolerance d (InAnyOrder proof) = IsFewest loads sizes pes tolerance (d, proof)
IsReorderingBy loads sizes pes tolerance d nearness = IsRefinedBy loads sizes pes tolerance d nearness

abbrev pub IsReordering : {A : Type 0} → List ℕ → List (ℕ × ℕ) → ℕ → ℕ → Refined A → Type 0
IsReordering loads sizes pes tolerance r = IsReorderingBy loads sizes pes tolerance r.decision r.nearness

-- the bottleneck, the bytes and the moves are those of the cuts and the names
pub record HasFigures {A : Type 0} (loads : List ℕ) (sizes : List (ℕ × ℕ)) (d : Decision A) : Type 0 where
  pub bottleneck_is : d.division.bottleneck ≡ peak loads d.division.cuts
  pub no_floor : d.division.floor ≡ Zero
  pub no_u : d.prices.u ≡ []
  pub no_v : d.prices.v ≡ []
  pub moved_is : d.moved ≡ bytes_moved sizes d.division.cuts d.naming
  pub moves_are : d.moves ≡ moves_below sizes d.division.cuts d.naming (length sizes)

-- the prices of a decision in the present order are in the range of those of a plan; in another order there are none
abbrev pub ArePricesSmallBy : {A : Type 0} → List (ℕ × ℕ) → Decision A → Nearness A → Type 0
ArePricesSmallBy sizes d (InAnyOrder proof) = Unit {0}
ArePricesSmallBy sizes d nearness = ArePricesSmall sizes (record { decision = d; nearness = nearness })

abbrev pub ArePricesSmallInOrder : {A : Type 0} → List (ℕ × ℕ) → Refined A → Type 0
ArePricesSmallInOrder sizes r = ArePricesSmallBy sizes r.decision r.nearness

-- cuts and names that move the fewest bytes, as a decision
abbrev pub as_fewest : {A : Type 0} → Fewest A → Refined A
as_fewest f = record { decision = f.0; nearness = InAnyOrder f.1 }

-- the one in any order where it moves no more bytes, and otherwise the other
abbrev pub IsLesser : {A : Type 0} → Refined A → Fewest A → Refined A → Type 0
IsLesser refined fewest r =
    (r ≡ refined) ⊎ ((r ≡ as_fewest fewest) × (fewest.0.moved ≤ refined_moved refined))

-- an element has a place, and the PE is one of this number of PEs
pub record HasPlaceBelow (pes : ℕ) (cuts names : List ℕ) (i : ℕ) : Type 0 where
  pub place : HasPlace cuts names i
  pub below : planned_pe cuts names i < pes
