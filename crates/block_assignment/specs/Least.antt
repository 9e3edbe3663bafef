-- The first naming in dictionary order of those that give each block a PE that it may have, and the search for it.
-- Source: C. Berge, "Two theorems in graph theory", Proceedings of the National Academy of Sciences 43(9), 1957.
use Rattle.std.specs.Prelude.{◌≡◌, ℕ, zero, suc, ◌*◌, ◌/◌, ◌%◌, ◌<◌, ◌≤◌, List, [], ◌∷◌, length, slice_index, slice_index_or, take, drop}
use Rattle.std.specs.Int.{bit_at}
use Rattle.lb_certificates.specs.Naming.{IsNaming}
use Rattle.block_assignment.specs.declared.limits.TheConstants.MatrixLimits.{BLOCKS}

-- 1 where the set has this block, and 0 where not
abbrev pub member : List ℕ → ℕ → ℕ
member set b = bit_at (slice_index set (b / 64)) (b % 64)

-- 1 where the block may have this PE, and 0 where not: for each PE there is the set of the blocks that may have it
abbrev pub may_have : List (List ℕ) → ℕ → ℕ → ℕ
may_have takers b p = member (slice_index_or takers p []) b

-- the sets whose words stand one set after the other, each of the same number of words
abbrev pub rows : ℕ → ℕ → List ℕ → List (List ℕ)
rows width zero words = []
rows width (suc count) words = take width words ∷ rows width count (drop width words)

-- the words of this many sets, each with a bit for as many blocks
pub record AreRows (width count : ℕ) (words : List ℕ) : Type 0 where
  pub counted : length words ≡ count * width
  pub wide : count ≤ 64 * width
  pub few : count ≤ BLOCKS
  pub narrow : width ≤ BLOCKS

-- words for one set of this many blocks
pub record IsRoom (blocks : ℕ) (words : List ℕ) : Type 0 where
  pub wide : blocks ≤ 64 * length words
  pub narrow : length words ≤ BLOCKS

-- each block has a PE that it may have
abbrev pub IsAllowed : List (List ℕ) → List ℕ → Type 0
IsAllowed takers names = (b : ℕ) → b < length takers → may_have takers b (slice_index names b) ≡ 1

-- no allowed naming that gives the blocks before b the same PEs gives b a lesser one
abbrev pub IsLeastAt : List (List ℕ) → List ℕ → ℕ → Type 0
IsLeastAt takers names b =
    (others : List ℕ) → IsNaming (length takers) others → IsAllowed takers others
    → ((k : ℕ) → k < b → slice_index others k ≡ slice_index names k) → slice_index names b ≤ slice_index others b

-- The search from block b found block j: it is b or a later block, and no longer left.
pub record IsFound (blocks b : ℕ) (left : List ℕ) (j : ℕ) : Type 0 where
  pub from : b ≤ j
  pub inside : j < blocks
  pub taken : member left j ≡ 0

-- Each block that was found may have the PE of the block after it on its path back to b. Ranks fall along the path.
pub record IsTrail (takers : List (List ℕ)) (names : List ℕ) (b : ℕ) (left next : List ℕ) : Type 0 where
  pub rank : ℕ → ℕ
  pub later : (j : ℕ) → member left j ≡ 1 → (b < j) × (j < length takers)
  pub reached : (j : ℕ) → b < j → IsFound (length takers) b left j → IsFound (length takers) b left (slice_index next j)
  pub allowed : (j : ℕ) → b < j → IsFound (length takers) b left j → may_have takers j (slice_index names (slice_index next j)) ≡ 1
  pub nearer : (j : ℕ) → b < j → IsFound (length takers) b left j → rank (slice_index next j) < rank j

-- every later block that may have the PE of a block that was found was found
abbrev pub IsClosed : List (List ℕ) → List ℕ → ℕ → List ℕ → Type 0
IsClosed takers names b left =
    (i j : ℕ) → IsFound (length takers) b left i → b < j → j < length takers → may_have takers j (slice_index names i) ≡ 1 → member left j ≡ 0
