-- Decisions within a tolerance.
use Rattle.std.specs.Prelude.{◌≡◌, ◌⊎◌, ℕ, ◌<◌, ◌≤◌, List, length}
use Rattle.chain_partition.specs.Chosen.{IsChosen}
use Rattle.lb_certificates.specs.Chain.{peak, IsDivision}
use Rattle.lb_certificates.specs.Naming.{blocks_between, bytes_moved, IsLeastNaming, IsNamed, IsNaming}
use Rattle.lb_certificates.specs.declared.division.Division.{Division}
use Rattle.lb_certificates.specs.declared.division.Floor.TheVariants.{Zero}
use Rattle.lb_certificates.specs.declared.prices.Prices.{Prices}
use Rattle.lb_strategy.specs.Decisions.{ArePricesBounded, IsRight}
use Rattle.lb_strategy.specs.Moves.{moves_below, HasPlace}
use Rattle.lb_strategy.specs.declared.decision.Decision.{Decision}
use Rattle.chain_refinement.specs.Orders.{IsPresentOrder}
use Rattle.chain_refinement.specs.Refinement.{AreNearest, AreWithin, IsRefinement, refined_limit}
use Rattle.chain_refinement.specs.Tolerances.{limit_of}
use Rattle.chain_refinement.specs.NoOrders.{HasNoOrder}
use Rattle.chain_refinement.specs.declared.refinement.Refinement.{Refinement}
use Rattle.lb_refinement.specs.declared.nearness.Nearness.{Nearness}
use Rattle.lb_refinement.specs.declared.nearness.Nearness.TheVariants.{Planned, InOrder, InAnyOrder}
use Rattle.lb_refinement.specs.declared.nearness.OrderProof.{OrderProof}
use Rattle.lb_refinement.specs.declared.refined.Refined.{Refined}

-- a decision that keeps the order of the PEs, with its proof; and what a checker is shown of the two
abbrev pub Kept : Type 0 → Type 0
Kept A = Decision A × OrderProof A

abbrev pub refinement_of : {A : Type 0} → Kept A → Refinement A
refinement_of k =
    record { least = k.1.least; tolerance = k.1.tolerance; order = k.1.order; present = k.1.present; cuts = k.0.division.cuts; heights = k.1.heights }

-- Cuts near the present ones: in the present order of the PEs, of all cuts within the tolerance those that move the fewest
-- bytes and of these the nearest; then the least naming of the blocks between them. The floor claims nothing.
pub record IsKept {A : Type 0} (loads : List ℕ) (sizes : List (ℕ × ℕ)) (pes tolerance : ℕ) (k : Kept A) : Type 0 where
  pub order : IsPresentOrder sizes pes k.1.order k.1.present
  pub chosen : IsChosen loads pes k.1.least
  pub tolerance_is : k.1.tolerance ≡ tolerance
  pub right : IsRefinement loads sizes pes (refinement_of k)
  pub nearest : AreNearest loads sizes k.1.order k.1.present (refined_limit (refinement_of k)) k.0.division.cuts
  pub bottleneck_is : k.0.division.bottleneck ≡ peak loads k.0.division.cuts
  pub no_floor : k.0.division.floor ≡ Zero
  pub named : IsNamed sizes k.0.division.cuts k.0.naming k.0.prices.u k.0.prices.v
  pub least_naming : IsLeastNaming sizes k.0.division.cuts pes k.0.naming
  pub bounded : ArePricesBounded sizes k.0.division.cuts k.0.prices.u k.0.prices.v
  pub moved_is : k.0.moved ≡ bytes_moved sizes k.0.division.cuts k.0.naming
  pub moves_are : k.0.moves ≡ moves_below sizes k.0.division.cuts k.0.naming (length sizes)

-- the names of the blocks of a decision are the least naming, and the bytes and the moves are theirs
pub record HasNames {A : Type 0} (sizes : List (ℕ × ℕ)) (d : Decision A) : Type 0 where
  pub named : IsNamed sizes d.division.cuts d.naming d.prices.u d.prices.v
  pub least_naming : IsLeastNaming sizes d.division.cuts (blocks_between d.division.cuts) d.naming
  pub bounded : ArePricesBounded sizes d.division.cuts d.prices.u d.prices.v
  pub moved_is : d.moved ≡ bytes_moved sizes d.division.cuts d.naming
  pub moves_are : d.moves ≡ moves_below sizes d.division.cuts d.naming (length sizes)

-- the decision of a plan, by what the loads, the sizes and the number of PEs determine of it: all but its prices
pub record IsThePlan {A : Type 0} (loads : List ℕ) (sizes : List (ℕ × ℕ)) (pes : ℕ) (d : Decision A) : Type 0 where
  pub right : IsRight loads sizes pes d
  pub chosen : IsChosen loads pes d.division
  pub least_naming : IsLeastNaming sizes d.division.cuts pes d.naming

-- The refined decision: the cuts near the present ones, where the elements of each PE are consecutive and these cuts move fewer
-- bytes than the plan, and otherwise the plan.
abbrev pub IsRefinedBy : {A : Type 0} → List ℕ → List (ℕ × ℕ) → ℕ → ℕ → Decision A → Nearness A → Type 0
IsRefinedBy {A} loads sizes pes tolerance d Planned =
    IsThePlan loads sizes pes d × (HasNoOrder sizes pes ⊎ ((k : Kept A) × IsKept loads sizes pes tolerance k × (d.moved ≤ k.0.moved)))
IsRefinedBy {A} loads sizes pes tolerance d (InOrder proof) =
    IsKept loads sizes pes tolerance (d, proof) × ((e : Decision A) × IsThePlan loads sizes pes e × (d.moved < e.moved))
IsRefinedBy loads sizes pes tolerance d (InAnyOrder proof) = ⊥

abbrev pub IsRefined : {A : Type 0} → List ℕ → List (ℕ × ℕ) → ℕ → ℕ → Refined A → Type 0
IsRefined loads sizes pes tolerance r = IsRefinedBy loads sizes pes tolerance r.decision r.nearness

-- a plan, and cuts that keep the order, with their proofs
abbrev pub as_planned : {A : Type 0} → Decision A → Refined A
as_planned d = record { decision = d; nearness = Planned }

abbrev pub as_kept : {A : Type 0} → Kept A → Refined A
as_kept k = record { decision = k.0; nearness = InOrder k.1 }

-- the plan where the kept cuts do not move fewer bytes, and otherwise the kept cuts
abbrev pub IsCheaper : {A : Type 0} → Decision A → Kept A → Refined A → Type 0
IsCheaper planned kept r =
    ((r ≡ as_planned planned) × (planned.moved ≤ kept.0.moved)) ⊎ ((r ≡ as_kept kept) × (kept.0.moved < planned.moved))

-- the cuts, the names and the bytes that move
abbrev pub refined_cuts : {A : Type 0} → Refined A → List ℕ
refined_cuts r = r.decision.division.cuts

abbrev pub refined_names : {A : Type 0} → Refined A → List ℕ
refined_names r = r.decision.naming

abbrev pub refined_moved : {A : Type 0} → Refined A → ℕ
refined_moved r = r.decision.moved

abbrev pub refined_moves : {A : Type 0} → Refined A → List (ℕ × ℕ × ℕ)
refined_moves r = r.decision.moves

-- the greatest load of a block
abbrev pub refined_bottleneck : {A : Type 0} → Refined A → ℕ
refined_bottleneck r = r.decision.division.bottleneck

-- the least division: the one that a proof has, or that of the plan
abbrev pub least_by : {A : Type 0} → Decision A → Nearness A → Division A
least_by d Planned = d.division
least_by d (InOrder proof) = proof.least
least_by d (InAnyOrder proof) = proof.least

abbrev pub refined_least : {A : Type 0} → Refined A → Division A
refined_least r = least_by r.decision r.nearness

abbrev pub least_load : {A : Type 0} → Refined A → ℕ
least_load r = (refined_least r).bottleneck

-- the prices, which are in the range of those of a plan
abbrev pub refined_prices : {A : Type 0} → Refined A → Prices A
refined_prices r = r.decision.prices

abbrev pub ArePricesSmall : {A : Type 0} → List (ℕ × ℕ) → Refined A → Type 0
ArePricesSmall sizes r = ArePricesBounded sizes (refined_cuts r) (refined_prices r).u (refined_prices r).v

-- what is decided for these loads and sizes and this number of PEs within a tolerance
pub record IsDecidedWithin {A : Type 0} (loads : List ℕ) (sizes : List (ℕ × ℕ)) (pes tolerance : ℕ) (r : Refined A) : Type 0 where
  -- it is the refined decision
  pub refined : IsRefined loads sizes pes tolerance r
  -- its cuts divide all elements into as many blocks as there are PEs
  pub blocks : IsDivision 0 (length loads) pes (refined_cuts r)
  -- each block runs on a PE of its own
  pub naming : IsNaming pes (refined_names r)
  -- the bottleneck is the load of the heaviest block
  pub peak : refined_bottleneck r ≡ peak loads (refined_cuts r)
  -- no block is above the limit
  pub within : refined_bottleneck r ≤ limit_of (least_load r) tolerance
  -- no more bytes move than by the plan
  pub no_more : (d : Decision A) → IsThePlan loads sizes pes d → refined_moved r ≤ d.moved
  -- where the elements of each PE are consecutive and the present places are within the limit, nothing moves
  pub kept_whole : (names present : List ℕ) → IsPresentOrder sizes pes names present → AreWithin loads names (limit_of (least_load r) tolerance) present → refined_moved r ≡ 0
  -- each element has a place
  pub places : (i : ℕ) → i < length sizes → HasPlace (refined_cuts r) (refined_names r) i
  -- its prices are in the range of those of a plan
  pub bounded : ArePricesSmall sizes r

-- what two decisions within a tolerance have in common: all but heights and prices
pub record AreSame {A : Type 0} (one other : Refined A) : Type 0 where
  pub cuts : refined_cuts one ≡ refined_cuts other
  pub names : refined_names one ≡ refined_names other
  pub bottleneck : refined_bottleneck one ≡ refined_bottleneck other
  pub moved : refined_moved one ≡ refined_moved other
  pub moves : refined_moves one ≡ refined_moves other
