-- A decision within a tolerance as plain lists.
use Rattle.std.specs.Prelude.{◌≡◌, ◌⊎◌, Bool, true, false, ℕ, ◌<◌, ◌≤◌, List, ℤ, pos, replicate}
use Rattle.chain_partition.specs.Chosen.{IsChosen}
use Rattle.lb_certificates.specs.Certificate.{IsCertified}
use Rattle.lb_certificates.specs.Naming.{bytes_moved, IsLeastNaming, IsNamed}
use Rattle.lb_certificates.specs.declared.division.Division.{Division}
use Rattle.lb_strategy.specs.Decisions.{ArePricesBounded}
use Rattle.chain_refinement.specs.Orders.{IsPresentOrder}
use Rattle.chain_refinement.specs.Refinement.{AreNearest, AreProved, AreWithin}
use Rattle.chain_refinement.specs.Tolerances.{limit_of}
use Rattle.chain_refinement.specs.NoOrders.{HasNoOrder}
use Rattle.lb_lists.specs.Claims.{division_of}
use Rattle.lb_lists.specs.Runs.{sizes_of, Listed}

-- the cuts, the names of the blocks between them with their prices, the bytes that move, and the least division
pub record Told : Type 0 where
  pub least : ℕ
  pub moved : ℕ
  pub cuts : List ℕ
  pub names : List ℕ
  pub block_prices : List ℤ
  pub pe_prices : List ℤ
  pub least_cuts : List ℕ
  pub stops : List ℕ

-- the order of the PEs, with the present cuts, and the heights of each block
pub record Standing : Type 0 where
  pub order : List ℕ
  pub present : List ℕ
  pub heights : List (List (ℕ × ℕ))

-- the least division that is reported
abbrev pub told_division : Told → Division (Unit {0})
told_division told = division_of told.least told.least_cuts told.stops

-- The least division is the chosen one, the names are the least of those that move the fewest bytes for the cuts, with prices
-- that prove it, and the bytes are those that the names move.
pub record IsToldRight (run : Listed) (pes : ℕ) (told : Told) : Type 0 where
  pub certified : IsCertified run.loads pes (told_division told)
  pub chosen : IsChosen run.loads pes (told_division told)
  pub named : IsNamed (sizes_of run) told.cuts told.names told.block_prices told.pe_prices
  pub least_naming : IsLeastNaming (sizes_of run) told.cuts pes told.names
  pub moved : told.moved ≡ bytes_moved (sizes_of run) told.cuts told.names

-- the decision of the plan: its cuts are those of the least division
pub record IsToldPlan (run : Listed) (pes : ℕ) (told : Told) : Type 0 where
  pub right : IsToldRight run pes told
  pub cuts_are : told.cuts ≡ told.least_cuts

-- Cuts near the present ones: in the present order of the PEs, of all cuts within the tolerance those that move the fewest
-- bytes, which the heights prove, and of these the nearest.
pub record IsToldNear (run : Listed) (pes tolerance : ℕ) (told : Told) (standing : Standing) : Type 0 where
  pub right : IsToldRight run pes told
  pub order : IsPresentOrder (sizes_of run) pes standing.order standing.present
  pub proved : AreProved run.loads (sizes_of run) standing.order (limit_of told.least tolerance) told.cuts standing.heights
  pub nearest : AreNearest run.loads (sizes_of run) standing.order standing.present (limit_of told.least tolerance) told.cuts

-- What is decided within a tolerance: cuts near the present ones, where they move fewer bytes than the plan does; and
-- otherwise the plan.
abbrev pub IsRefinedRun : Listed → ℕ → ℕ → Bool → Told → Standing → Type 0
IsRefinedRun run pes tolerance true told standing =
    IsToldNear run pes tolerance told standing × ((plan : Told) → IsToldPlan run pes plan → told.moved < plan.moved)
IsRefinedRun run pes tolerance false told standing =
    IsToldPlan run pes told × (HasNoOrder (sizes_of run) pes ⊎ ((near : Told) × (stood : Standing) × IsToldNear run pes tolerance near stood × (told.moved ≤ near.moved)))

-- Cuts between blocks whose names are the PEs in their present order: of all cuts within the tolerance those that move the
-- fewest bytes in this order, which the heights prove, and of these the nearest. Names that are the order have no prices.
pub record IsToldInOrder (run : Listed) (pes tolerance : ℕ) (told : Told) (standing : Standing) : Type 0 where
  pub certified : IsCertified run.loads pes (told_division told)
  pub chosen : IsChosen run.loads pes (told_division told)
  pub order : IsPresentOrder (sizes_of run) pes standing.order standing.present
  pub proved : AreProved run.loads (sizes_of run) standing.order (limit_of told.least tolerance) told.cuts standing.heights
  pub nearest : AreNearest run.loads (sizes_of run) standing.order standing.present (limit_of told.least tolerance) told.cuts
  pub names_are : told.names ≡ standing.order
  pub moved : told.moved ≡ bytes_moved (sizes_of run) told.cuts told.names
  pub no_block_prices : told.block_prices ≡ replicate pes (pos 0)
  pub no_pe_prices : told.pe_prices ≡ replicate pes (pos 0)

-- What is decided within a tolerance where the PEs are to keep their order: such cuts; and where they have no order the plan.
abbrev pub IsInOrderRun : Listed → ℕ → ℕ → Bool → Told → Standing → Type 0
IsInOrderRun run pes tolerance true told standing = IsToldInOrder run pes tolerance told standing
IsInOrderRun run pes tolerance false told standing =
    IsToldPlan run pes told × HasNoOrder (sizes_of run) pes × ArePricesBounded (sizes_of run) told.cuts told.block_prices told.pe_prices

-- what is decided within a tolerance, where the PEs are to keep their order and where they are not
abbrev pub IsDecidedRun : Listed → ℕ → ℕ → Bool → Bool → Told → Standing → Type 0
IsDecidedRun run pes tolerance false near told standing = IsRefinedRun run pes tolerance near told standing
IsDecidedRun run pes tolerance true near told standing = IsInOrderRun run pes tolerance near told standing

-- what two decisions have in common: all but heights and prices
pub record AreToldSame (one other : Told) : Type 0 where
  pub least : one.least ≡ other.least
  pub moved : one.moved ≡ other.moved
  pub cuts : one.cuts ≡ other.cuts
  pub names : one.names ≡ other.names
  pub least_cuts : one.least_cuts ≡ other.least_cuts
  pub stops : one.stops ≡ other.stops

-- the elements of each PE are consecutive, and the present cuts between them keep the blocks within the limit
abbrev pub KeepWithin : Listed → ℕ → ℕ → Type 0
KeepWithin run pes limit =
    (order : List ℕ) × (present : List ℕ) × IsPresentOrder (sizes_of run) pes order present × AreWithin run.loads order limit present
