-- Parts of a chain, and divisions of it, as plain lists; and when a call on them is refused.
use Rattle.std.specs.Prelude.{◌≡◌, ◌⊎◌, ℕ, ◌+◌, ◌*◌, ◌^◌, ◌<◌, ◌≤◌, List, [], ◌∷◌, length, sum, take, drop, ℤ}
use Rattle.block_assignment.specs.Held.{AreHeldBytes}
use Rattle.block_assignment.specs.declared.error.CostError.{CostError}
use Rattle.block_assignment.specs.declared.error.CostError.TheVariants as Cost
use Rattle.chain_partition.specs.declared.error.ChainError.{ChainError}
use Rattle.chain_partition.specs.declared.error.ChainError.TheVariants as Chain
use Rattle.lb_certificates.specs.declared.division.Division.{Division}
use Rattle.lb_certificates.specs.declared.division.Floor.{Floor}
use Rattle.lb_certificates.specs.declared.division.Floor.TheVariants.{Zero, Fence}
use Rattle.merged_chains.specs.Merged.{RunOn}
use Rattle.merged_chains.specs.Windows.{AreEnds, AreOrdered, KeepsStarts}
use Rattle.merged_chains.specs.declared.error.PartError.{PartError}
use Rattle.merged_chains.specs.declared.error.PartError.TheVariants.{BadInput, BadLoad, OutOfMemory}
use Rattle.merged_chains.specs.declared.limits.TheConstants.PartLimits.{PES}

-- why a part is refused whose loads are no chain
abbrev pub part_error : ChainError → PartError
part_error Chain.TooLong = BadInput
part_error Chain.TooHeavy = BadLoad
part_error Chain.OutOfMemory = OutOfMemory

-- why a table is refused of which no costs were made
abbrev pub table_error : CostError → PartError
table_error Cost.OutOfMemory = OutOfMemory
table_error _ = BadInput

-- Why a call was refused: its input was not in order; or it was, and the loads add up to 2^63 or more; or neither, and memory
-- was refused.
abbrev pub IsPartRefusal : Type 0 → List ℕ → PartError → Type 0
IsPartRefusal in_order loads BadInput = ¬ in_order
IsPartRefusal in_order loads BadLoad = in_order × (2 ^ 63 ≤ sum loads)
IsPartRefusal in_order loads OutOfMemory = in_order × (sum loads < 2 ^ 63)

-- a number of blocks that the parts of a chain may be divided into
abbrev pub IsBlockCount : ℕ → Type 0
IsBlockCount blocks = (1 ≤ blocks) × (blocks ≤ PES)

-- the elements of a part are numbered below 2^32 - 1, from first on
abbrev pub IsNumbered : ℕ → List ℕ → Type 0
IsNumbered first loads = first + length loads < 2 ^ 32

-- a part, and walks that are to go on over it
pub record IsWalkAsked (loads : List ℕ) (blocks : ℕ) (limits closed filled : List ℕ) : Type 0 where
  pub few : length loads < 2 ^ 32
  pub counted : IsBlockCount blocks
  pub closed_for_each : length closed ≡ length limits
  pub filled_for_each : length filled ≡ length limits

-- a part, and room for the ends of this number of blocks
pub record IsEndAsked (loads : List ℕ) (first blocks : ℕ) (ends : List ℕ) : Type 0 where
  pub numbered : IsNumbered first loads
  pub counted : IsBlockCount blocks
  pub room : blocks ≤ length ends

-- a part, and windows in order
pub record IsMergeAsked (loads : List ℕ) (first : ℕ) (lower upper : List ℕ) : Type 0 where
  pub numbered : IsNumbered first loads
  pub ordered : AreOrdered lower upper

-- a chain, and room for its division into this number of blocks
pub record IsDivisionAsked (loads : List ℕ) (blocks : ℕ) (cuts stops : List ℕ) : Type 0 where
  pub few : length loads < 2 ^ 32
  pub counted : IsBlockCount blocks
  pub cuts_room : length cuts ≡ blocks + 1
  pub stops_room : length stops ≡ blocks + 1

-- a part, and room for what it has of the ranges
pub record IsWeightAsked (loads : List ℕ) (first blocks : ℕ) (block_loads fence_loads : List ℕ) : Type 0 where
  pub numbered : IsNumbered first loads
  pub counted : IsBlockCount blocks
  pub blocks_room : length block_loads ≡ blocks
  pub fence_room : length fence_loads ≡ blocks

-- a load for each block, and for each range of a fence
pub record IsCheckAsked (blocks : ℕ) (block_loads fence_loads : List ℕ) : Type 0 where
  pub counted : IsBlockCount blocks
  pub for_blocks : length block_loads ≡ blocks
  pub for_fence : length fence_loads ≡ blocks

-- a number for each block and each PE
pub record IsTableAsked (blocks : ℕ) (held : List ℕ) : Type 0 where
  pub some_block : 1 ≤ blocks
  pub square : length held ≡ blocks * blocks

-- the bytes of blocks on PEs, and room for the names and the prices
pub record IsNamesAsked (blocks : ℕ) (held names : List ℕ) (u v : List ℤ) : Type 0 where
  pub bytes : AreHeldBytes blocks held
  pub names_room : length names ≡ blocks
  pub block_prices_room : length u ≡ blocks
  pub pe_prices_room : length v ≡ blocks

-- the stops of a floor, and the floor with these stops: none where the bottleneck is 0
abbrev pub stops_in : {A : Type 0} → Floor A → List ℕ
stops_in Zero = []
stops_in (Fence stops) = stops

abbrev pub floor_of : {A : Type 0} → List ℕ → Floor A
floor_of [] = Zero
floor_of (stop ∷ stops) = Fence (stop ∷ stops)

-- the division of these parts
abbrev pub division_of : {A : Type 0} → ℕ → List ℕ → List ℕ → Division A
division_of bottleneck cuts stops = record { bottleneck = bottleneck; cuts = cuts; floor = floor_of stops }

-- these runs of a part, which end before these elements, are its runs within the windows
pub record AreRunsWithin (part : List ℕ) (first : ℕ) (lower upper runs ends : List ℕ) : Type 0 where
  pub paired : length runs ≡ length ends
  pub run_on : RunOn part first runs ends
  pub ends_at : AreEnds lower upper first (first + length part) (first + length part) ends
  pub kept : KeepsStarts lower upper first (first + length part) ends

-- Two lists are written at the front of two others, where both have room, and otherwise neither is.
pub record AreWritten (runs ends loads_old ends_old loads_new ends_new : List ℕ) : Type 0 where
  pub runs_first : length runs ≤ length loads_old → length ends ≤ length ends_old → take (length runs) loads_new ≡ runs
  pub ends_first : length runs ≤ length loads_old → length ends ≤ length ends_old → take (length ends) ends_new ≡ ends
  pub loads_behind : drop (length runs) loads_new ≡ drop (length runs) loads_old
  pub ends_behind : drop (length ends) ends_new ≡ drop (length ends) ends_old
  pub no_room : (length loads_old < length runs) ⊎ (length ends_old < length ends) → (loads_new ≡ loads_old) × (ends_new ≡ ends_old)
