-- Costs by a table of the bytes of each block that are on each PE, and why there are none.
use Rattle.std.specs.Prelude.{◌≡◌, ◌≢◌, ◌⊎◌, ℕ, ◌*◌, ◌<◌, ◌≤◌, List, length, sum}
use Rattle.lb_certificates.specs.Held.{held_cost}
use Rattle.block_assignment.specs.Table.{Table, cost_at}
use Rattle.block_assignment.specs.declared.error.CostError.{CostError}
use Rattle.block_assignment.specs.declared.error.CostError.TheVariants.{Unpaired, BlockCount, Undivided, TooManyBytes, OutOfMemory}
use Rattle.block_assignment.specs.declared.limits.TheConstants.MatrixLimits.{BLOCKS, BYTES}

-- a number for each block and each PE, of 1 to 4,096 blocks
pub record IsSquare (blocks : ℕ) (held : List ℕ) : Type 0 where
  pub counted : length held ≡ blocks * blocks
  pub some_block : 1 ≤ blocks
  pub few_blocks : blocks ≤ BLOCKS

-- and no more bytes in all than the limit
pub record AreHeldBytes (blocks : ℕ) (held : List ℕ) : Type 0 where
  pub square : IsSquare blocks held
  pub small : sum held ≤ BYTES

-- the costs by this table
pub record HasHeldCosts (blocks : ℕ) (held : List ℕ) (t : Table) : Type 0 where
  pub counted : t.blocks ≡ blocks
  pub exact : (b p : ℕ) → b < blocks → p < blocks → cost_at t b p ≡ held_cost blocks held b p

-- why no costs were made of it: the first thing that is wrong, or that there was no memory
abbrev pub IsHeldRefusal : ℕ → List ℕ → CostError → Type 0
IsHeldRefusal blocks held Unpaired = length held ≢ blocks * blocks
IsHeldRefusal blocks held BlockCount = (length held ≡ blocks * blocks) × ((blocks ≡ 0) ⊎ (BLOCKS < blocks))
IsHeldRefusal blocks held Undivided = ⊥
IsHeldRefusal blocks held TooManyBytes = IsSquare blocks held × (BYTES < sum held)
IsHeldRefusal blocks held OutOfMemory = AreHeldBytes blocks held
