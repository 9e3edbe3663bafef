-- Decisions within a tolerance that keep the order of the PEs.
use Rattle.std.specs.Prelude.{◌≡◌, ℕ, List, [], length}
use Rattle.chain_partition.specs.Chosen.{IsChosen}
use Rattle.lb_certificates.specs.Chain.{peak}
use Rattle.lb_certificates.specs.Naming.{bytes_moved}
use Rattle.lb_certificates.specs.declared.division.Floor.TheVariants.{Zero}
use Rattle.lb_strategy.specs.Decisions.{HasBoundedPrices}
use Rattle.lb_strategy.specs.Moves.{moves_below}
use Rattle.lb_strategy.specs.declared.decision.Decision.{Decision}
use Rattle.chain_refinement.specs.Orders.{IsPresentOrder}
use Rattle.chain_refinement.specs.Refinement.{AreNearest, IsRefinement, refined_limit}
use Rattle.chain_refinement.specs.NoOrders.{HasNoOrder}
use Rattle.chain_refinement.specs.declared.refinement.Refinement.{Refinement}
use Rattle.lb_refinement.specs.Refined.{Kept, IsThePlan}
use Rattle.lb_refinement.specs.declared.nearness.Nearness.{Nearness}
use Rattle.lb_refinement.specs.declared.nearness.Nearness.TheVariants.{Planned, InOrder, InAnyOrder}
use Rattle.lb_refinement.specs.declared.refined.Refined.{Refined}

-- what a checker is shown of a decision whose names are the order that is kept
abbrev pub ordered_of : {A : Type 0} → Kept A → Refinement A
ordered_of k =
    record { least = k.1.least; tolerance = k.1.tolerance; order = k.0.naming; present = k.1.present; cuts = k.0.division.cuts; heights = k.1.heights }

-- Cuts between blocks that run on the PEs in their present order: of all cuts within the tolerance those that move the fewest
-- bytes in this order, and of these the nearest to the present ones. The floor claims nothing, and there are no prices.
pub record IsKeptInOrder {A : Type 0} (loads : List ℕ) (sizes : List (ℕ × ℕ)) (pes tolerance : ℕ) (k : Kept A) : Type 0 where
  pub named : k.1.order ≡ k.0.naming
  pub order : IsPresentOrder sizes pes k.0.naming k.1.present
  pub chosen : IsChosen loads pes k.1.least
  pub tolerance_is : k.1.tolerance ≡ tolerance
  pub right : IsRefinement loads sizes pes (ordered_of k)
  pub nearest : AreNearest loads sizes k.0.naming k.1.present (refined_limit (ordered_of k)) k.0.division.cuts
  pub bottleneck_is : k.0.division.bottleneck ≡ peak loads k.0.division.cuts
  pub no_floor : k.0.division.floor ≡ Zero
  pub no_u : k.0.prices.u ≡ []
  pub no_v : k.0.prices.v ≡ []
  pub moved_is : k.0.moved ≡ bytes_moved sizes k.0.division.cuts k.0.naming
  pub moves_are : k.0.moves ≡ moves_below sizes k.0.division.cuts k.0.naming (length sizes)

-- The decision that keeps the order: the cuts near the present ones, or, where the PEs have no order, the plan.
abbrev pub IsInOrderBy : {A : Type 0} → List ℕ → List (ℕ × ℕ) → ℕ → ℕ → Decision A → Nearness A → Type 0
IsInOrderBy loads sizes pes tolerance d Planned = IsThePlan loads sizes pes d × HasNoOrder sizes pes
IsInOrderBy loads sizes pes tolerance d (InOrder proof) = IsKeptInOrder loads sizes pes tolerance (d, proof)
IsInOrderBy loads sizes pes tolerance d (InAnyOrder proof) = ⊥

abbrev pub IsRefinedInOrder : {A : Type 0} → List ℕ → List (ℕ × ℕ) → ℕ → ℕ → Refined A → Type 0
IsRefinedInOrder loads sizes pes tolerance r = IsInOrderBy loads sizes pes tolerance r.decision r.nearness

-- the prices of a plan are in the range of those of every plan; kept cuts have none
abbrev pub ArePlanPricesSmall : {A : Type 0} → List (ℕ × ℕ) → Decision A → Nearness A → Type 0
ArePlanPricesSmall sizes d Planned = HasBoundedPrices sizes d
ArePlanPricesSmall sizes d nearness = Unit {0}

abbrev pub HasSmallPrices : {A : Type 0} → List (ℕ × ℕ) → Refined A → Type 0
HasSmallPrices sizes r = ArePlanPricesSmall sizes r.decision r.nearness
