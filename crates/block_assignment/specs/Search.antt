-- What the search for names keeps. Sources: R. K. Ahuja, T. L. Magnanti and J. B. Orlin, "Network Flows", Prentice
-- Hall 1993, section 12.4: reduced costs that are not below 0, and 0 along the names; and sections 4.5 and 9.7: a
-- tree of shortest paths, by reduced costs.
use Rattle.std.specs.Prelude.{◌≡◌, ◌≢◌, ℕ, ◌+◌, ◌<◌, ◌≤◌, ◌==◌, ◌⊎◌, List, length, slice_index, slice_index_or, count_by, Option, Some, None}
use Rattle.lb_certificates.specs.Naming.{IsNaming}
use Rattle.block_assignment.specs.Table.{Table, IsMatrix, cost_at, greatest}

-- The table, how many blocks have names, the names, the block that holds each PE, the price of each block and the
-- discount of each PE; and the tree of the search, for each PE: when it was scanned, counted from 1, or 0 where it was
-- not, how far it is from the root, and the block before it. The price of block b is its dual value u; the discount of PE
-- p is its dual value v with the sign changed. So u + v <= cost is written price <= cost + discount, without negative
-- numbers.
pub record State : Type 0 where
  pub table : Table
  pub named : ℕ
  pub names : List ℕ
  pub holders : List (Option ℕ)
  pub price : List ℕ
  pub discount : List ℕ
  pub rank : List ℕ
  pub distance : List ℕ
  pub from : List ℕ

-- an entry for each block or each PE
pub record IsSized (s : State) : Type 0 where
  pub is_table : IsMatrix s.table
  pub names_length : length s.names ≡ s.table.blocks
  pub holders_length : length s.holders ≡ s.table.blocks
  pub price_length : length s.price ≡ s.table.blocks
  pub discount_length : length s.discount ≡ s.table.blocks
  pub rank_length : length s.rank ≡ s.table.blocks
  pub distance_length : length s.distance ≡ s.table.blocks
  pub from_length : length s.from ≡ s.table.blocks

-- no named block has this PE
abbrev pub IsFree : ℕ → List ℕ → ℕ → Type 0
IsFree named names p = (b : ℕ) → b < named → slice_index names b ≢ p

-- The named blocks have different PEs, and each PE knows its block. No price of a block is above its cost on a PE plus
-- the PE's discount, and on the block's own PE it is just that. Free PEs have no discount.
pub record IsMatched (s : State) : Type 0 where
  pub below : (b : ℕ) → b < s.named → slice_index s.names b < s.table.blocks
  pub apart : (a b : ℕ) → a < b → b < s.named → slice_index s.names a ≢ slice_index s.names b
  pub known : (b : ℕ) → b < s.named → slice_index_or s.holders (slice_index s.names b) None ≡ Some b
  pub held : (p b : ℕ) → p < s.table.blocks → slice_index_or s.holders p None ≡ Some b → (b < s.named) × (slice_index s.names b ≡ p)
  pub low : (b p : ℕ) → b < s.table.blocks → p < s.table.blocks → slice_index s.price b ≤ cost_at s.table b p + slice_index s.discount p
  pub tight : (b : ℕ) → b < s.named → slice_index s.price b ≡ cost_at s.table b (slice_index s.names b) + slice_index s.discount (slice_index s.names b)
  pub free : (p : ℕ) → p < s.table.blocks → IsFree s.named s.names p → slice_index s.discount p ≡ 0

-- A naming of all blocks: no price of a block is above its cost on a PE plus the PE's discount, and on the block's own
-- PE it is just that.
pub record IsTight (blocks : ℕ) (cost : ℕ → ℕ → ℕ) (price discount names : List ℕ) : Type 0 where
  pub naming : IsNaming blocks names
  pub low : (b p : ℕ) → b < blocks → p < blocks → slice_index price b ≤ cost b p + slice_index discount p
  pub tight : (b : ℕ) → b < blocks → slice_index price b ≡ cost b (slice_index names b) + slice_index discount (slice_index names b)

-- Block b is in the tree, so far from the root: it is the root, the first block that has no name, or it is as far as
-- its PE, which was scanned.
abbrev pub IsAt : State → ℕ → ℕ → Type 0
IsAt s b far =
    ((b ≡ s.named) × (far ≡ 0)) ⊎ ((b < s.named) × (0 < slice_index s.rank (slice_index s.names b)) × (far ≡ slice_index s.distance (slice_index s.names b)))

-- PE p is as far as the block before it plus that block's reduced cost there
pub record IsReached (s : State) (p : ℕ) : Type 0 where
  pub far : ℕ
  pub joined : IsAt s (slice_index s.from p) far
  pub exact : slice_index s.distance p + slice_index s.price (slice_index s.from p) ≡ far + cost_at s.table (slice_index s.from p) p + slice_index s.discount p

-- The tree of the first block that has no name. PEs were scanned with ranks from 1 up, below next, and are held. Each
-- PE is as far as the shortest path to it through a block of the tree. No PE that was scanned is farther than one that
-- was not, and the PE of the block before it was scanned before it.
pub record IsTree (next : ℕ) (s : State) : Type 0 where
  pub some : 0 < next
  pub ranks : (p : ℕ) → p < s.table.blocks → slice_index s.rank p < next
  pub held : (p : ℕ) → p < s.table.blocks → 0 < slice_index s.rank p → (b : ℕ) × (b < s.named) × (slice_index s.names b ≡ p)
  pub reached : (p : ℕ) → p < s.table.blocks → IsReached s p
  pub least : (b far p : ℕ) → IsAt s b far → p < s.table.blocks → slice_index s.distance p + slice_index s.price b ≤ far + cost_at s.table b p + slice_index s.discount p
  pub nearer : (p q : ℕ) → p < s.table.blocks → q < s.table.blocks → 0 < slice_index s.rank p → slice_index s.rank q ≡ 0 → slice_index s.distance p ≤ slice_index s.distance q
  pub earlier : (p : ℕ) → p < s.table.blocks → 0 < slice_index s.rank p → slice_index s.from p < s.named
      → slice_index s.rank (slice_index s.names (slice_index s.from p)) < slice_index s.rank p

-- The block before each scanned PE has reduced cost 0 on that PE, and is the root or holds a PE that was scanned before
-- it.
pub record IsPath (s : State) : Type 0 where
  pub joined : (p : ℕ) → p < s.table.blocks → 0 < slice_index s.rank p → slice_index s.from p ≤ s.named
  pub reduced_zero : (p : ℕ) → p < s.table.blocks → 0 < slice_index s.rank p
      → slice_index s.price (slice_index s.from p) ≡ cost_at s.table (slice_index s.from p) p + slice_index s.discount p
  pub scanned : (p : ℕ) → p < s.table.blocks → 0 < slice_index s.rank p → slice_index s.from p < s.named → 0 < slice_index s.rank (slice_index s.names (slice_index s.from p))
  pub earlier : (p : ℕ) → p < s.table.blocks → 0 < slice_index s.rank p → slice_index s.from p < s.named
      → slice_index s.rank (slice_index s.names (slice_index s.from p)) < slice_index s.rank p

-- no price and no discount is above the greatest cost
pub record IsSmall (s : State) : Type 0 where
  pub price : (b : ℕ) → b < s.table.blocks → slice_index s.price b ≤ greatest s.table.costs
  pub discount : (p : ℕ) → p < s.table.blocks → slice_index s.discount p ≤ greatest s.table.costs

-- the PEs that were not scanned
abbrev pub unscanned : List ℕ → ℕ
unscanned rank = count_by (λ r. r == 0) rank

-- The list has the PEs below end that were not scanned, each once and in ascending order.
pub record IsUnscanned (rank pes : List ℕ) (end : ℕ) : Type 0 where
  pub below : (i : ℕ) → i < length pes → slice_index pes i < end
  pub apart : (i : ℕ) → i < length pes → slice_index rank (slice_index pes i) ≡ 0
  pub ascending : (i j : ℕ) → i < j → j < length pes → slice_index pes i < slice_index pes j
  pub each : (p : ℕ) → p < end → slice_index rank p ≡ 0 → (i : ℕ) × (i < length pes) × (slice_index pes i ≡ p)

-- of the first PEs one that was not scanned, and is nearest of those
pub record IsNearest (rank distance : List ℕ) (end pe : ℕ) : Type 0 where
  pub inside : pe < end
  pub apart : slice_index rank pe ≡ 0
  pub least : (p : ℕ) → p < end → slice_index rank p ≡ 0 → slice_index distance pe ≤ slice_index distance p

-- How far a PE is, and the block before it, once block b has joined the tree, with its distance from the root, its cost
-- on the PE and its price.
pub record IsRelaxed (far cost price discount b distance from new_distance new_from : ℕ) : Type 0 where
  pub no_more : new_distance ≤ distance
  pub for_block : new_distance + price ≤ far + cost + discount
  pub which : ((new_distance ≡ distance) × (new_from ≡ from)) ⊎ ((new_distance < distance) × (new_distance + price ≡ far + cost + discount) × (new_from ≡ b))

-- a price or a discount, once the tree has reached so far
pub record IsRaised (rank distance reach price raised : ℕ) : Type 0 where
  pub in_tree : 0 < rank → raised + distance ≡ price + reach
  pub outside : rank ≡ 0 → raised ≡ price
