-- A chain whose elements are merged into runs of consecutive elements, and which runs keep the cuts within a limit that move the
-- fewest bytes where the ranks keep their order. Both are this project's.
use Rattle.std.specs.Prelude.{◌≡◌, ◌⊎◌, ℕ, ◌+◌, ◌-◌, ◌<◌, ◌≤◌, List, length, slice_index}
use Rattle.lb_snapshot.specs.Measured.{load}
use Rattle.lb_certificates.specs.Certificate.{NoneAbove}
use Rattle.lb_certificates.specs.Chain.{IsDivision}
use Rattle.chain_refinement.specs.Refinement.{AreWithin}
use Rattle.merged_chains.specs.Merged.{AreRuns, IsStart, unmerged}
use Rattle.merged_refinement.specs.InOrder.{in_order}

-- Bounds of the cuts that need be looked at. In both lists neighbors have a block within the limit between them: in the first
-- from the beginning of the chain on, and none lies behind the present cut; in the second up to its end, and none lies before
-- the present cut.
pub record AreBounds (loads present : List ℕ) (blocks limit : ℕ) (near far : List ℕ) : Type 0 where
  pub near_divides : IsDivision 0 (slice_index near blocks) blocks near
  pub near_within : NoneAbove loads blocks limit near
  pub near_before : (b : ℕ) → b ≤ blocks → slice_index near b ≤ slice_index present b
  pub far_divides : IsDivision (slice_index far 0) (length loads) blocks far
  pub far_within : NoneAbove loads blocks limit far
  pub far_behind : (b : ℕ) → b ≤ blocks → slice_index present b ≤ slice_index far b

-- of any cuts within the limit each one between blocks that lies between its bounds, these included, begins a run
abbrev pub KeepsCuts : List ℕ → List ℕ → ℕ → ℕ → List ℕ → List ℕ → Type 0
KeepsCuts loads starts blocks limit near far =
    (cuts : List ℕ) (b : ℕ) → AreWithin loads (in_order blocks) limit cuts → 0 < b → b < blocks → slice_index near b ≤ slice_index cuts b
    → slice_index cuts b ≤ slice_index far b → IsStart starts (slice_index cuts b)

-- How far cuts within the limit reach. With the element before it, a block from a first place to the next one is above the
-- limit, unless it begins at 0; and so is one from a last place up to the element behind the next one, unless that ends the chain.
pub record AreReaches (loads : List ℕ) (blocks limit : ℕ) (first last : List ℕ) : Type 0 where
  pub first_ends : slice_index first blocks ≤ length loads
  pub first_heavy : (b : ℕ) → b < blocks → (slice_index first b ≡ 0) ⊎ (limit < load loads (slice_index first b - 1) (slice_index first (b + 1)))
  pub last_heavy : (b : ℕ) → b < blocks → (length loads ≤ slice_index last (b + 1)) ⊎ (limit < load loads (slice_index last b) (slice_index last (b + 1) + 1))

-- each element that lies between the bounds of a cut between blocks, and between its first and its last place, begins a run
abbrev pub KeepsPlaces : List ℕ → ℕ → List ℕ → List ℕ → List ℕ → List ℕ → Type 0
KeepsPlaces starts blocks near far first last =
    (b x : ℕ) → 0 < b → b < blocks → slice_index near b ≤ x → slice_index first b ≤ x → x ≤ slice_index far b → x ≤ slice_index last b → IsStart starts x

-- The runs are a merged chain of these loads and of these bytes, in which `standing` are the present cuts, and each cut that
-- need be looked at begins a run.
pub record IsMergedInOrder (loads bytes present runs run_bytes starts standing : List ℕ) (blocks limit : ℕ) : Type 0 where
  pub some_block : 0 < blocks
  pub paired : length bytes ≡ length loads
  pub divides : IsDivision 0 (length loads) blocks present
  pub runs_weigh : AreRuns loads runs starts
  pub runs_hold : AreRuns bytes run_bytes starts
  pub standing_divides : IsDivision 0 (length runs) blocks standing
  pub standing_is : present ≡ unmerged starts standing
  pub near : List ℕ
  pub far : List ℕ
  pub bounds : AreBounds loads present blocks limit near far
  pub kept : KeepsCuts loads starts blocks limit near far
