-- Blocks of elements that are plain lists of sizes and places, and why they are refused.
use Rattle.std.specs.Prelude.{◌≡◌, ◌≢◌, ◌⊎◌, ℕ, ◌+◌, ◌-◌, ◌<◌, ◌≤◌, List, length, sum}
use Rattle.lb_certificates.specs.Chain.{IsDivision}
use Rattle.block_assignment.specs.declared.error.CostError.{CostError}
use Rattle.block_assignment.specs.declared.error.CostError.TheVariants.{Unpaired, BlockCount, Undivided, TooManyBytes, OutOfMemory}
use Rattle.block_assignment.specs.declared.limits.TheConstants.MatrixLimits.{BLOCKS, BYTES}

-- a place for each size, and cuts that divide the elements into 1 to 4,096 blocks
pub record AreDivided (bytes places cuts : List ℕ) : Type 0 where
  pub paired : length places ≡ length bytes
  pub some_block : 1 < length cuts
  pub few_blocks : length cuts ≤ BLOCKS + 1
  pub divides : IsDivision 0 (length bytes) (length cuts - 1) cuts

-- and no more bytes in all than the limit
pub record AreBlocksOf (bytes places cuts : List ℕ) : Type 0 where
  pub divided : AreDivided bytes places cuts
  pub small : sum bytes ≤ BYTES

-- why no costs were made of them: the first thing that is wrong, or that there was no memory
abbrev pub IsRefusal : List ℕ → List ℕ → List ℕ → CostError → Type 0
IsRefusal bytes places cuts Unpaired = length places ≢ length bytes
IsRefusal bytes places cuts BlockCount =
    (length places ≡ length bytes) × ((length cuts < 2) ⊎ (BLOCKS + 1 < length cuts))
IsRefusal bytes places cuts Undivided =
    (length places ≡ length bytes) × (1 < length cuts) × (length cuts ≤ BLOCKS + 1) × ¬ (IsDivision 0 (length bytes) (length cuts - 1) cuts)
IsRefusal bytes places cuts TooManyBytes = AreDivided bytes places cuts × (BYTES < sum bytes)
IsRefusal bytes places cuts OutOfMemory = AreBlocksOf bytes places cuts
