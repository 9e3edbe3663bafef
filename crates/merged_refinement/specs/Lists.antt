-- A merged chain on ranks in their order, as plain lists; and when a call on it is refused.
use Rattle.std.specs.Prelude.{◌≡◌, ◌⊎◌, ℕ, ◌+◌, ◌-◌, ◌^◌, ◌<◌, ◌≤◌, min, max, List, length, slice_index, sum}
use Rattle.std.specs.List.Sorted.{IsNonDecreasing}
use Rattle.lb_snapshot.specs.Measured.{load}
use Rattle.lb_certificates.specs.Chain.{IsDivision}
use Rattle.chain_refinement.specs.Refinement.{AreWithin}
use Rattle.merged_chains.specs.declared.error.PartError.{PartError}
use Rattle.merged_chains.specs.declared.error.PartError.TheVariants.{BadInput, BadLoad, OutOfMemory}
use Rattle.merged_chains.specs.declared.limits.TheConstants.PartLimits.{PES}
use Rattle.merged_refinement.specs.declared.lists.MergedChain.{MergedChain}
use Rattle.merged_refinement.specs.declared.present.Present.{Present}
use Rattle.merged_refinement.specs.InOrder.{in_order}
use Rattle.merged_refinement.specs.Merged.{AreBounds}

-- the first place of a cut that need be looked at, and the last: its bounds, or how far cuts reach where that is narrower
abbrev pub from_place : List ℕ → List ℕ → ℕ → ℕ
from_place near first b = max (slice_index near b) (slice_index first b)

abbrev pub to_place : List ℕ → List ℕ → ℕ → ℕ
to_place far last b = min (slice_index far b) (slice_index last b)

-- between these places of each cut between blocks, if there are any, every run has one element
abbrev pub AreSingle : List ℕ → ℕ → List ℕ → List ℕ → List ℕ → List ℕ → Type 0
AreSingle starts blocks near far first last =
    (b : ℕ) → 0 < b → b < blocks → from_place near first b ≤ to_place far last b
    → slice_index starts (to_place far last b) ≡ slice_index starts (from_place near first b) + (to_place far last b - from_place near first b)

-- the run with this number has one element
abbrev pub IsSingle : List ℕ → ℕ → Type 0
IsSingle starts run = slice_index starts (run + 1) ≡ slice_index starts run + 1

-- Cuts within the limit come before none of these, by the loads of runs: with the run before it, which has one element, a block from
-- one to the next is above the limit, unless it begins with the first run.
abbrev pub AreFirst : List ℕ → List ℕ → ℕ → ℕ → List ℕ → Type 0
AreFirst loads starts blocks limit first =
    (b : ℕ) → b < blocks → 0 < slice_index first b → (limit < load loads (slice_index first b - 1) (slice_index first (b + 1))) × IsSingle starts (slice_index first b - 1)

-- and behind none of these: up to the run behind the next one, which has one element, unless the runs end there
abbrev pub AreLast : List ℕ → List ℕ → ℕ → ℕ → List ℕ → Type 0
AreLast loads starts blocks limit last =
    (b : ℕ) → b < blocks → slice_index last (b + 1) < length loads
    → (limit < load loads (slice_index last b) (slice_index last (b + 1) + 1)) × IsSingle starts (slice_index last (b + 1))

-- both
pub record AreRunReaches (loads starts : List ℕ) (blocks limit : ℕ) (first last : List ℕ) : Type 0 where
  pub first_rises : IsNonDecreasing first
  pub first_ends : slice_index first blocks ≤ length loads
  pub last_rises : IsNonDecreasing last
  pub last_ends : slice_index last blocks ≤ length loads
  pub are_first : AreFirst loads starts blocks limit first
  pub are_last : AreLast loads starts blocks limit last

-- runs, cuts and bounds that fit together, as far as their numbers tell without a look at the loads
pub record FitTogether (loads bytes starts present near far first last cuts : List ℕ) : Type 0 where
  pub some_rank : 2 ≤ length present
  pub few_ranks : length present ≤ PES + 1
  pub near_counted : length near ≡ length present
  pub far_counted : length far ≡ length present
  pub first_counted : length first ≡ length present
  pub last_counted : length last ≡ length present
  pub room : length cuts ≡ length present
  pub few : length loads < 2 ^ 32
  pub paired : length bytes ≡ length loads
  pub starts_counted : length starts ≡ length loads + 1
  pub divides : IsDivision 0 (length loads) (length present - 1) present
  pub light : sum bytes < 2 ^ 61

-- bounds and reaches are right, each run between them has one element, and there are cuts within the limit
pub record CanBeKept (loads starts present near far first last : List ℕ) (limit : ℕ) : Type 0 where
  pub bounds : AreBounds loads present (length present - 1) limit near far
  pub reaches : AreRunReaches loads starts (length present - 1) limit first last
  pub single : AreSingle starts (length present - 1) near far first last
  pub some_within : (cuts : List ℕ) × AreWithin loads (in_order (length present - 1)) limit cuts

-- the lists that a call is given fit together
abbrev pub AreFit : MergedChain → Present → List ℕ → Type 0
AreFit runs present cuts =
    FitTogether runs.loads.now runs.bytes.now runs.starts.now present.cuts.now present.near.now present.far.now present.first.now present.last.now cuts

abbrev pub CanKeep : MergedChain → Present → ℕ → Type 0
CanKeep runs present limit =
    CanBeKept runs.loads.now runs.starts.now present.cuts.now present.near.now present.far.now present.first.now present.last.now limit

-- Why a call was refused: the lists do not fit together; or they do, and the loads add up to 2^63 or more; or they do not add up
-- to so much, and cuts can't be kept; or memory was refused.
abbrev pub IsKeepRefusal : Type 0 → Type 0 → List ℕ → PartError → Type 0
IsKeepRefusal fit can_be loads BadInput = (¬ fit) ⊎ (fit × (sum loads < 2 ^ 63) × (¬ can_be))
IsKeepRefusal fit can_be loads BadLoad = fit × (2 ^ 63 ≤ sum loads)
IsKeepRefusal fit can_be loads OutOfMemory = fit × (sum loads < 2 ^ 63)
