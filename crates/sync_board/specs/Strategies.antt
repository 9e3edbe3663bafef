-- What a strategy decides for the snapshot of a round. Sources: A. Pinar and C. Aykanat, "Fast optimal load balancing
-- algorithms for 1D partitioning", Journal of Parallel and Distributed Computing 64(8), 2004, for the least division; the
-- Charm++ manual's RefineLB, for a balance that moves little. That each is exact is this project's choice.
use Rattle.std.specs.Prelude.{ℕ, ◌<◌, List, [], ◌∷◌, length}
use Rattle.lb_certificates.specs.Chain.{IsDivision}
use Rattle.lb_certificates.specs.Naming.{IsNaming}
use Rattle.lb_snapshot.specs.Measured.{Taken}
use Rattle.lb_strategy.specs.Decisions.{ArePricesBounded, IsPlanned}
use Rattle.lb_strategy.specs.Moves.{HasPlace}
use Rattle.lb_strategy.specs.declared.decision.Decision.{Decision}
use Rattle.lb_refinement.specs.Refined.{IsRefinedBy}
use Rattle.lb_refinement.specs.declared.nearness.Nearness.{Nearness}
use Rattle.lb_refinement.specs.declared.nearness.Nearness.TheVariants.{Planned, InOrder, InAnyOrder}
use Rattle.sync_board.specs.declared.strategy.Strategy.{Strategy}
use Rattle.sync_board.specs.declared.strategy.Strategy.TheVariants.{Least, Refine}

-- what a strategy decides, and what proves that it moves few bytes: `Least` the decision that is planned, and `Refine` the refined
-- one within its tolerance
abbrev pub IsDecidedBy : {A : Type 0} → Strategy → List ℕ → List (ℕ × ℕ) → ℕ → Decision A → Nearness A → Type 0
IsDecidedBy Least loads sizes pes d Planned = IsPlanned loads sizes pes d
IsDecidedBy Least loads sizes pes d (InOrder proof) = ⊥
IsDecidedBy Least loads sizes pes d (InAnyOrder proof) = ⊥
IsDecidedBy (Refine tolerance) loads sizes pes d nearness = IsRefinedBy loads sizes pes tolerance d nearness

-- each decision, with the snapshot that it was made for, is what a strategy decides, as the nearness in its place proves
unfoldable pub AreProved : {A : Type 0} → ℕ → Strategy → List (Taken × Decision A) → List (Nearness A) → Type 0
AreProved pes strategy [] [] = Unit {0}
AreProved pes strategy [] (near ∷ nearness) = ⊥
AreProved pes strategy (kept ∷ rounds) [] = ⊥
AreProved pes strategy (kept ∷ rounds) (near ∷ nearness) =
    IsDecidedBy strategy kept.0.loads kept.0.sizes pes kept.1 near × AreProved pes strategy rounds nearness

-- What decisions have in common, whatever the strategy: the cuts divide all elements into as many blocks as there are PEs,
-- each block runs on a PE of its own, so each element has a place, and prices are within their range.
pub record PlacesAll {A : Type 0} (loads : List ℕ) (sizes : List (ℕ × ℕ)) (pes : ℕ) (d : Decision A) : Type 0 where
  pub blocks : IsDivision 0 (length loads) pes d.division.cuts
  pub naming : IsNaming pes d.naming
  pub places : (i : ℕ) → i < length loads → HasPlace d.division.cuts d.naming i
  pub bounded : ArePricesBounded sizes d.division.cuts d.prices.u d.prices.v
