-- When a decision of a balancing step is right, and what is the first flaw of one that is not.
use Rattle.std.specs.Prelude.{◌≡◌, ◌≢◌, ◌<◌, ◌≤◌, ℕ, List, length, ◌⊎◌, ℤ}
use Rattle.block_assignment.specs.Table.{AreWithin}
use Rattle.chain_partition.specs.Chosen.{IsChosen}
use Rattle.lb_certificates.specs.Certificate.{IsCertified}
use Rattle.lb_certificates.specs.Chain.{IsLeastDivision}
use Rattle.lb_certificates.specs.Flaws.{HasFlaw, HasNamingFlaw, IsFirst}
use Rattle.lb_certificates.specs.Naming.{block_cost, blocks_between, bytes_moved, IsCheapest, IsLeastNaming, IsNamed}
use Rattle.lb_certificates.specs.declared.flaw.Flaw.{Flaw}
use Rattle.lb_certificates.specs.declared.flaw.Flaw.TheVariants.{MovedWrong, MovesWrong}
use Rattle.lb_strategy.specs.declared.decision.Decision.{Decision}
use Rattle.lb_strategy.specs.Moves.{moves_below, HasPlace}

-- the bytes that the decision's naming moves
abbrev pub right_moved : {A : Type 0} → List (ℕ × ℕ) → Decision A → ℕ
right_moved sizes d = bytes_moved sizes d.division.cuts d.naming

-- the moves that its naming asks for
abbrev pub right_moves : {A : Type 0} → List (ℕ × ℕ) → Decision A → List (ℕ × ℕ × ℕ)
right_moves sizes d = moves_below sizes d.division.cuts d.naming (length sizes)

-- the naming and the prices of the decision are right
abbrev pub IsNamedRight : {A : Type 0} → List (ℕ × ℕ) → Decision A → Type 0
IsNamedRight sizes d = IsNamed sizes d.division.cuts d.naming d.prices.u d.prices.v

-- Every part of the decision is right for these loads and sizes and this number of blocks: its division is certified, its
-- prices prove its naming, and it states the bytes that this naming moves, and the moves.
pub record IsRight {A : Type 0} (loads : List ℕ) (sizes : List (ℕ × ℕ)) (blocks : ℕ) (d : Decision A) : Type 0 where
  pub division : IsCertified loads blocks d.division
  pub named : IsNamedRight sizes d
  pub moved : d.moved ≡ right_moved sizes d
  pub moves : d.moves ≡ right_moves sizes d

-- the greatest cost of a block on a PE, for this number of blocks and as many PEs
pub record IsGreatestCost (blocks : ℕ) (cost : ℕ → ℕ → ℕ) (most : ℕ) : Type 0 where
  pub block : ℕ
  pub pe : ℕ
  pub block_inside : block < blocks
  pub pe_inside : pe < blocks
  pub reached : cost block pe ≡ most
  pub greatest : (b p : ℕ) → b < blocks → p < blocks → cost b p ≤ most

-- Each price of a block is between 0 and the greatest cost of a block on a PE, and each price of a PE between minus that and 0.
pub record ArePricesBounded (sizes : List (ℕ × ℕ)) (cuts : List ℕ) (u v : List ℤ) : Type 0 where
  pub most : ℕ
  pub is_greatest : IsGreatestCost (blocks_between cuts) (block_cost sizes cuts) most
  pub within : AreWithin most u v

-- the prices of a decision are bounded
abbrev pub HasBoundedPrices : {A : Type 0} → List (ℕ × ℕ) → Decision A → Type 0
HasBoundedPrices sizes d = ArePricesBounded sizes d.division.cuts d.prices.u d.prices.v

-- What is planned for these loads and sizes and this number of PEs. The loads and the sizes determine all of it except its prices.
pub record IsPlanned {A : Type 0} (loads : List ℕ) (sizes : List (ℕ × ℕ)) (pes : ℕ) (d : Decision A) : Type 0 where
  -- every part of it is right
  pub right : IsRight loads sizes pes d
  -- its division is the chosen one of the least divisions
  pub chosen : IsChosen loads pes d.division
  -- no division into as many consecutive blocks has a lighter heaviest block
  pub least : IsLeastDivision loads pes d.division.bottleneck d.division.cuts
  -- no naming of these blocks moves fewer bytes
  pub cheapest : IsCheapest sizes d.division.cuts pes d.naming
  -- of the namings that move as few, its own is the first in dictionary order
  pub least_naming : IsLeastNaming sizes d.division.cuts pes d.naming
  -- each element has a place
  pub places : (i : ℕ) → i < length sizes → HasPlace d.division.cuts d.naming i
  -- its prices are bounded
  pub bounded : HasBoundedPrices sizes d

-- the first flaw of the division
abbrev pub IsDivisionFlaw : {A : Type 0} → List ℕ → ℕ → Decision A → Flaw → Type 0
IsDivisionFlaw loads blocks d flaw = IsFirst (HasFlaw loads blocks d.division) flaw

-- the first flaw of the naming and its prices, of a certified division
abbrev pub IsNamingFlaw : {A : Type 0} → List ℕ → List (ℕ × ℕ) → ℕ → Decision A → Flaw → Type 0
IsNamingFlaw loads sizes blocks d flaw =
    IsCertified loads blocks d.division × IsFirst (HasNamingFlaw sizes d.division.cuts d.naming d.prices.u d.prices.v) flaw

-- a wrong number of bytes moved, where division and naming are right
abbrev pub IsMovedFlaw : {A : Type 0} → List ℕ → List (ℕ × ℕ) → ℕ → Decision A → Flaw → Type 0
IsMovedFlaw loads sizes blocks d flaw =
    IsCertified loads blocks d.division × IsNamedRight sizes d × (flaw ≡ MovedWrong) × (d.moved ≢ right_moved sizes d)

-- a wrong list of moves, where all else is right
abbrev pub IsMovesFlaw : {A : Type 0} → List ℕ → List (ℕ × ℕ) → ℕ → Decision A → Flaw → Type 0
IsMovesFlaw loads sizes blocks d flaw =
    IsCertified loads blocks d.division × IsNamedRight sizes d × (flaw ≡ MovesWrong) × (d.moved ≡ right_moved sizes d) × (d.moves ≢ right_moves sizes d)

-- the first flaw of a decision that is not right
abbrev pub IsFirstFlaw : {A : Type 0} → List ℕ → List (ℕ × ℕ) → ℕ → Decision A → Flaw → Type 0
IsFirstFlaw loads sizes blocks d flaw =
    IsDivisionFlaw loads blocks d flaw ⊎ (IsNamingFlaw loads sizes blocks d flaw ⊎ (IsMovedFlaw loads sizes blocks d flaw ⊎ IsMovesFlaw loads sizes blocks d flaw))
