-- Definitions for this crate's own code, which no public contract uses.
use Rattle.std.specs.Prelude.{Bool, ◌≡◌, ◌≢◌, ℕ, ◌+◌, ◌-◌, ◌<◌, ◌≤◌, List, [], length, drop, slice_index, slice_index_or, slice_range, sum_by}
use Rattle.chare_index.specs.declared.limits.TheConstants.Limits.{PES}
use Rattle.lb_snapshot.specs.Measured.{IsLoads, IsSizes, load}
use Rattle.lb_certificates.specs.Certificate.{NoneAbove}
use Rattle.lb_certificates.specs.Chain.{block_load}
use Rattle.lb_certificates.specs.Naming.{IsNaming}
use Rattle.chain_refinement.specs.Refinement.{held_bytes}
use Rattle.any_order.specs.AnyOrder.{is_level, IsCorner, level_at, reordered_limit, RisesTo}
use Rattle.any_order.specs.Flaws.{IsSteep}
use Rattle.any_order.specs.declared.block.Block.{Block}
use Rattle.any_order.specs.declared.block.Pair.{Pair}
use Rattle.any_order.specs.declared.follow.Reached.{Reached}
use Rattle.any_order.specs.declared.most.Most.{Most}
use Rattle.any_order.specs.declared.reordered.Reordered.{Reordered}
use Rattle.any_order.specs.declared.row.At.{At}

-- a chain, a limit, and bounds for each number of blocks, as steps
pub record BoundedChain : Type 0 where
  pub loads : List ℕ
  pub sizes : List (ℕ × ℕ)
  pub limit : ℕ
  pub any : List (List (ℕ × ℕ))
  pub free : List (List (ℕ × ℕ))

-- what a reordered division claims of these elements
abbrev pub bounded_of : {A : Type 0} → List ℕ → List (ℕ × ℕ) → Reordered A → BoundedChain
bounded_of loads sizes r =
    record { loads = loads; sizes = sizes; limit = reordered_limit r; any = r.any; free = r.free }

-- a chain, a limit, and bounds for a number of blocks and for one more, as steps
pub record Claimed : Type 0 where
  pub loads : List ℕ
  pub sizes : List (ℕ × ℕ)
  pub limit : ℕ
  pub any : List (ℕ × ℕ)
  pub free : List (ℕ × ℕ)
  pub next_any : List (ℕ × ℕ)
  pub next_free : List (ℕ × ℕ)

-- the bounds for b blocks and for one more
abbrev pub claim_at : BoundedChain → ℕ → Claimed
claim_at c b =
    record {
      loads = c.loads;
      sizes = c.sizes;
      limit = c.limit;
      any = slice_index_or c.any b [];
      free = slice_index_or c.free b [];
      next_any = slice_index_or c.any (b + 1) [];
      next_free = slice_index_or c.free (b + 1) [];
    }

-- the elements are measured, and each has a load and a size
pub record AreMeasured (loads : List ℕ) (sizes : List (ℕ × ℕ)) : Type 0 where
  pub weighed : IsLoads loads
  pub packed : IsSizes sizes
  pub paired : length loads ≡ length sizes

-- this number of PEs, at least one, and an order of them
pub record AreOrdered (pes : ℕ) (names : List ℕ) : Type 0 where
  pub some_pe : 0 < pes
  pub few_pes : pes ≤ PES
  pub naming : IsNaming pes names

-- the first of this number of blocks that is above the limit
pub record IsFirstHeavy (loads : List ℕ) (blocks limit : ℕ) (cuts : List ℕ) (b : ℕ) : Type 0 where
  pub inside : b < blocks
  pub heavy : limit < block_load loads cuts b
  pub earlier : NoneAbove loads b limit cuts

-- the bytes of the elements y..x that are on this PE, and all of them
abbrev pub held_between : List (ℕ × ℕ) → ℕ → ℕ → ℕ → ℕ
held_between sizes y x pe = sum_by (λ size. held_bytes size pe) (slice_range sizes y x)

abbrev pub bytes_between : List (ℕ × ℕ) → ℕ → ℕ → ℕ
bytes_between sizes y x = sum_by (λ size. size.0) (slice_range sizes y x)

-- the most bytes on any PE but one, and that PE; and the most on any other
pub record IsMost (held : ℕ → ℕ) (own : ℕ) (most : Most) : Type 0 where
  pub apart : most.pe ≢ own
  pub reached : most.bytes ≤ held most.pe
  pub others_reached : (pe : ℕ) × (pe ≢ own) × (pe ≢ most.pe) × (most.others ≤ held pe)
  pub above : (pe : ℕ) → pe ≢ own → held pe ≤ most.bytes
  pub others_above : (pe : ℕ) → pe ≢ own → pe ≢ most.pe → held pe ≤ most.others

-- the bytes of the elements y..x on each PE
pub record IsHolding (sizes : List (ℕ × ℕ)) (y x own : ℕ) (kept : List ℕ) (most : Most) (bytes : ℕ) : Type 0 where
  pub counted : length kept ≡ PES
  pub kept_is : (pe : ℕ) → pe < PES → slice_index kept pe ≡ held_between sizes y x pe
  pub most_is : IsMost (held_between sizes y x) own most
  pub bytes_is : bytes ≡ bytes_between sizes y x

-- the bounds rise by no more than the block brings
pub record IsRisen (low high : Pair) (own home : ℕ) (block : Block) : Type 0 where
  pub on_own : high.any - low.free ≤ block.bytes - block.own
  pub on_other : high.any - low.any ≤ block.bytes - block.most.bytes
  pub free_kept : own ≡ home → high.free - low.free ≤ block.bytes - block.most.bytes
  pub free_on_own : own ≢ home → high.free - low.free ≤ block.bytes - block.own
  pub free_but_most : own ≢ home → home ≡ block.most.pe → high.free - low.any ≤ block.bytes - block.most.others
  pub free_on_other : own ≢ home → home ≢ block.most.pe → high.free - low.any ≤ block.bytes - block.most.bytes

-- both bounds at a place, and those for one more block
abbrev pub low_at : Claimed → ℕ → Pair
low_at claim y = record { any = level_at claim.any 0 y; free = level_at claim.free 0 y }

abbrev pub high_at : Claimed → ℕ → Pair
high_at claim x = record { any = level_at claim.next_any 0 x; free = level_at claim.next_free 0 x }

-- nothing changes behind a place of the bounds, or of those for one more block
abbrev pub is_low_level : Claimed → ℕ → Bool
is_low_level claim y = is_level claim.sizes (level_at claim.any 0) (level_at claim.free 0) y

abbrev pub is_high_level : Claimed → ℕ → Bool
is_high_level claim x = is_level claim.sizes (level_at claim.next_any 0) (level_at claim.next_free 0) x

-- a block has to be looked at; the bounds rise by no more than it brings; they rise by more
abbrev pub IsCornerOf : Claimed → ℕ → ℕ → Type 0
IsCornerOf claim y x =
    IsCorner claim.sizes (level_at claim.any 0) (level_at claim.free 0) (level_at claim.next_any 0) (level_at claim.next_free 0) y x

abbrev pub RisesAt : Claimed → ℕ → ℕ → Type 0
RisesAt claim y x =
    RisesTo claim.sizes (level_at claim.any 0) (level_at claim.free 0) (level_at claim.next_any 0) (level_at claim.next_free 0) y x

abbrev pub IsSteepAt : Claimed → ℕ → ℕ → Type 0
IsSteepAt claim y x =
    IsSteep claim.loads claim.sizes claim.limit (level_at claim.any 0) (level_at claim.free 0) (level_at claim.next_any 0) (level_at claim.next_free 0) y x

-- the bounds rise by no more than blocks bring that begin at y, end before a place, and have to be looked at
abbrev pub RisesFrom : Claimed → ℕ → ℕ → Type 0
RisesFrom claim y end =
    (x : ℕ) → y ≤ x → x < end → x ≤ length claim.loads → load claim.loads y x ≤ claim.limit → IsCornerOf claim y x → RisesAt claim y x

-- the first end of a block from y on at which they rise by more
pub record IsFirstEnd (claim : Claimed) (y x : ℕ) : Type 0 where
  pub steep : IsSteepAt claim y x
  pub earlier : RisesFrom claim y x

-- they rise by no more for all blocks that begin before a place
abbrev pub RisesBelow : Claimed → ℕ → Type 0
RisesBelow claim places = (y : ℕ) → y < places → RisesFrom claim y (length claim.loads + 1)

-- the first block for which they rise by more, by where it begins and then where it ends
pub record IsFirstBlock (claim : Claimed) (block : ℕ × ℕ) : Type 0 where
  pub first : IsFirstEnd claim block.0 block.1
  pub earlier : RisesBelow claim block.0

-- they rise by no more up to the bounds for this number of blocks
abbrev pub RisesUpTo : BoundedChain → ℕ → Type 0
RisesUpTo c blocks = (b : ℕ) → b < blocks → RisesBelow (claim_at c b) (length c.loads + 1)

-- the first number of blocks from which they rise by more, with the first block
pub record IsFirstSteep (c : BoundedChain) (blocks : ℕ) (place : ℕ × ℕ × ℕ) : Type 0 where
  pub inside : place.0 < blocks
  pub first : IsFirstBlock (claim_at c place.0) (place.1, place.2)
  pub earlier : RisesUpTo c place.0

-- the first `at.next` steps are before or at place x, and `at.level` is the level of the last of them
pub record IsReached (steps : List (ℕ × ℕ)) (x : ℕ) (at : Reached) : Type 0 where
  pub inside : at.next ≤ length steps
  pub left : (z : ℕ) → x ≤ z → level_at steps 0 z ≡ level_at (drop at.next steps) at.level z

-- both bounds of a row are followed to place x
pub record IsAt (any free : List (ℕ × ℕ)) (x : ℕ) (at : At) : Type 0 where
  pub any_reached : IsReached any x at.any
  pub free_reached : IsReached free x at.free
  pub any_is : at.any.level ≡ level_at any 0 x
  pub free_is : at.free.level ≡ level_at free 0 x

-- what is known behind the elements y..x
pub record IsWalk (claim : Claimed) (y x own : ℕ) (kept : List ℕ) (most : Most) (bytes weight : ℕ) (high : At) : Type 0 where
  pub holding : IsHolding claim.sizes y x own kept most bytes
  pub weighed : weight ≡ load claim.loads y x
  pub risen : RisesFrom claim y (x + 1)
  pub high_is : IsAt claim.next_any claim.next_free x high
