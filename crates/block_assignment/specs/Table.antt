-- What each block of a division costs on each PE, as a square table: an assignment problem.
use Rattle.std.specs.Prelude.{◌≡◌, ℕ, ◌+◌, ◌-◌, ◌*◌, ◌^◌, ◌<◌, ◌≤◌, List, [], ◌∷◌, length, All, slice_index, max, ℤ, pos, neg_ℤ, ◌≤ℤ◌}
use Rattle.chare_index.specs.declared.limits.TheConstants.Limits.{PES}
use Rattle.lb_certificates.specs.Naming.{block_cost}
use Rattle.block_assignment.specs.declared.limits.TheConstants.MatrixLimits.{BLOCKS, BYTES}

-- this many blocks and as many PEs, and the costs of the first block on each PE, of the second, and so on
pub record Table : Type 0 where
  pub blocks : ℕ
  pub costs : List ℕ

-- the cost of block b on PE p
abbrev pub cost_at : Table → ℕ → ℕ → ℕ
cost_at t b p = slice_index t.costs (b * t.blocks + p)

-- 1 to this many blocks, and no cost above a bound: the limits that the maker of a table states
pub record IsWithin (most_blocks most_cost : ℕ) (t : Table) : Type 0 where
  pub some_block : 1 ≤ t.blocks
  pub few_blocks : t.blocks ≤ most_blocks
  pub square : length t.costs ≡ t.blocks * t.blocks
  pub small : All (λ cost. cost ≤ most_cost) t.costs

-- 1 to 256 blocks, and each cost at most that of a full array of elements of the greatest size
abbrev pub IsTable : Table → Type 0
IsTable t = IsWithin PES (2 ^ 36) t

-- the widest limits of any table: 1 to 4,096 blocks, and each cost at most 2^47
abbrev pub IsMatrix : Table → Type 0
IsMatrix t = IsWithin BLOCKS BYTES t

-- the costs are the bytes of each block that do not stand on each PE
pub record IsTableOf (sizes : List (ℕ × ℕ)) (cuts : List ℕ) (t : Table) : Type 0 where
  pub counted : t.blocks ≡ length cuts - 1
  pub exact : (b p : ℕ) → b < t.blocks → p < t.blocks → cost_at t b p ≡ block_cost sizes cuts b p

-- the greatest of these costs, and 0 of none
abbrev pub greatest : List ℕ → ℕ
greatest [] = 0
greatest (cost ∷ costs) = max cost (greatest costs)

-- each price of a block is 0 to the bound, and each price of a PE 0 down to as much below 0
pub record AreWithin (bound : ℕ) (u v : List ℤ) : Type 0 where
  pub block_prices : All (λ price. (pos 0 ≤ℤ price) × (price ≤ℤ pos bound)) u
  pub pe_prices : All (λ price. (neg_ℤ (pos bound) ≤ℤ price) × (price ≤ℤ pos 0)) v
