-- Definitions for this crate's own code, which no public contract uses.
use Rattle.std.specs.Prelude.{◌≡◌, ℕ, ◌+◌, ◌<◌, ◌≤◌, List, [], length, slice_index_or}
use Rattle.chare_index.specs.declared.limits.TheConstants.Limits.{PES}
use Rattle.lb_snapshot.specs.Measured.{IsLoads, IsSizes, load}
use Rattle.lb_certificates.specs.Certificate.{NoneAbove}
use Rattle.lb_certificates.specs.Chain.{block_load}
use Rattle.lb_certificates.specs.Naming.{IsNaming}
use Rattle.chain_refinement.specs.Flaws.{IsSteep}
use Rattle.chain_refinement.specs.Refinement.{cut_cost, height_at, refined_limit}
use Rattle.chain_refinement.specs.Walks.{IsClimbed, IsWindow}
use Rattle.chain_refinement.specs.declared.few_places.Base.{Base}
use Rattle.chain_refinement.specs.declared.place.Cut.{Cut}
use Rattle.chain_refinement.specs.declared.refinement.Refinement.{Refinement}

-- what is claimed: that these heights bound what cuts within this limit cost, where the PEs have this order
pub record Claimed : Type 0 where
  pub loads : List ℕ
  pub sizes : List (ℕ × ℕ)
  pub names : List ℕ
  pub limit : ℕ
  pub heights : List (List (ℕ × ℕ))

-- what a refinement claims of these elements
abbrev pub claim_of : {A : Type 0} → List ℕ → List (ℕ × ℕ) → Refinement A → Claimed
claim_of loads sizes r =
    record { loads = loads; sizes = sizes; names = r.order; limit = refined_limit r; heights = r.heights }

-- this number of PEs, at least one, and an order of them
pub record AreOrdered (pes : ℕ) (names : List ℕ) : Type 0 where
  pub some_pe : 0 < pes
  pub few_pes : pes ≤ PES
  pub naming : IsNaming pes names

-- the first of this number of blocks that is above the limit
pub record IsFirstHeavy (loads : List ℕ) (blocks limit : ℕ) (cuts : List ℕ) (b : ℕ) : Type 0 where
  pub inside : b < blocks
  pub heavy : limit < block_load loads cuts b
  pub earlier : NoneAbove loads b limit cuts

-- loads and sizes are measured, there is a name for each PE, and each has heights
pub record IsClaim (claim : Claimed) : Type 0 where
  pub loads : IsLoads claim.loads
  pub sizes : IsSizes claim.sizes
  pub paired : length claim.loads ≡ length claim.sizes
  pub order : IsNaming (length claim.names) claim.names
  pub some : 0 < length claim.names
  pub few : length claim.names ≤ PES
  pub counted : length claim.heights ≡ length claim.names

-- the height rises to this place by no more than the cut between block b and the next costs there
abbrev pub IsGentle : Claimed → ℕ → ℕ → Type 0
IsGentle claim b x =
    (y : ℕ) → y ≤ x → load claim.loads y x ≤ claim.limit → height_at claim.heights (b + 1) x ≤ height_at claim.heights b y + cut_cost claim.sizes claim.names b x

-- the height rises so to each place before this one
abbrev pub AllGentle : Claimed → ℕ → ℕ → Type 0
AllGentle claim b places = (x : ℕ) → x < places → x ≤ length claim.loads → IsGentle claim b x

-- the height rises so to each place of the chain, for the cuts behind the first `blocks` blocks
abbrev pub AreGentle : Claimed → ℕ → Type 0
AreGentle claim blocks = (b : ℕ) → b < blocks → AllGentle claim b (length claim.loads + 1)

-- a place to which the height rises by more, for the cut between block b and the next
abbrev pub RisesAt : Claimed → ℕ → ℕ → Type 0
RisesAt claim b x = IsSteep claim.loads claim.sizes claim.names claim.limit (height_at claim.heights) b x

-- the first such place, by block and then place
pub record IsFirstSteep (claim : Claimed) (place : ℕ × ℕ) : Type 0 where
  pub inside : place.0 + 1 < length claim.names
  pub steep : RisesAt claim place.0 place.1
  pub earlier_places : AllGentle claim place.0 place.1
  pub earlier_blocks : AreGentle claim place.0

-- what is known of place x for the cut between block b and the next
pub record IsPlace (claim : Claimed) (b x : ℕ) (place : Cut) : Type 0 where
  pub cost_is : place.cost ≡ cut_cost claim.sizes claim.names b x
  pub window : IsWindow claim.loads x claim.limit place.window.start place.window.weight
  pub low : IsClimbed (slice_index_or claim.heights b []) place.window.start place.low.next place.low.height
  pub low_is : place.low.height ≡ height_at claim.heights b place.window.start
  pub high : IsClimbed (slice_index_or claim.heights (b + 1) []) x place.high.next place.high.height
  pub high_is : place.high.height ≡ height_at claim.heights (b + 1) x

-- a place of the chain, and the widest block within the limit that ends there
pub record IsBase (claim : Claimed) (base : Base) : Type 0 where
  pub inside : base.end ≤ length claim.loads
  pub window : IsWindow claim.loads base.end claim.limit base.window.start base.window.weight

-- the heights of the block behind the cut rise no more behind this place
abbrev pub IsLevelBehind : Claimed → ℕ → ℕ → Type 0
IsLevelBehind claim b x =
    (z : ℕ) → x ≤ z → z ≤ length claim.loads → height_at claim.heights (b + 1) z ≤ height_at claim.heights (b + 1) x

-- from one place to another the height rises gently, and from there on no more
pub record IsWalked (claim : Claimed) (b from to : ℕ) : Type 0 where
  pub gentle : (x : ℕ) → from ≤ x → x ≤ to → IsGentle claim b x
  pub level : IsLevelBehind claim b to
