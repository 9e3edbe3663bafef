-- A chain whose elements are merged into runs of consecutive elements, and which runs keep its least division.
-- The greedy ends are those of the probe in A. Pinar and C. Aykanat, "Fast optimal load balancing algorithms for 1D
-- partitioning", Journal of Parallel and Distributed Computing 64(8), 2004. Merging is this project's.
use Rattle.std.specs.Prelude.{◌≡◌, ℕ, ◌+◌, ◌-◌, ◌<◌, ◌≤◌, List, ◌++◌, length, map, slice_index}
use Rattle.lb_snapshot.specs.Measured.{load}
use Rattle.lb_certificates.specs.Chain.{IsLeastPeak}
use Rattle.lb_certificates.specs.declared.division.Division.{Division}
use Rattle.lb_certificates.specs.declared.division.Floor.{Floor}
use Rattle.lb_certificates.specs.declared.division.Floor.TheVariants.{Zero, Fence}
use Rattle.chain_partition.specs.Greedy.{IsGreedy}

-- Run j is the elements starts[j]..starts[j + 1], one or more of them, and weighs what they weigh; the runs are all
-- elements, and the last start is their number.
pub record AreRuns (loads runs starts : List ℕ) : Type 0 where
  pub counted : length starts ≡ length runs + 1
  pub begins : slice_index starts 0 ≡ 0
  pub ends : slice_index starts (length runs) ≡ length loads
  pub onward : (j : ℕ) → j < length runs → slice_index starts j < slice_index starts (j + 1)
  pub weighs : (j : ℕ) → j < length runs → slice_index runs j ≡ load loads (slice_index starts j) (slice_index starts (j + 1))

-- an element, or the number of elements, is one of the starts
abbrev pub IsStart : List ℕ → ℕ → Type 0
IsStart starts element = (j : ℕ) × (j + 1 ≤ length starts) × (slice_index starts j ≡ element)

-- the greedy ends within each limit from one below low to high are starts of runs
abbrev pub KeepsEnds : List ℕ → List ℕ → ℕ → ℕ → ℕ → Type 0
KeepsEnds loads starts blocks low high =
    (limit : ℕ) (ends : List ℕ) → low ≤ limit + 1 → limit ≤ high → IsGreedy loads blocks limit ends → (b : ℕ) → b ≤ blocks → IsStart starts (slice_index ends b)

-- Windows of the ends: for each block each element from the end within one limit up to the end within another starts a
-- run. The ends are those of two walks of the chain.
pub record AreWindows (loads starts : List ℕ) (blocks low high : ℕ) : Type 0 where
  pub lower : List ℕ
  pub upper : List ℕ
  pub lower_walk : IsGreedy loads blocks (low - 1) lower
  pub upper_walk : IsGreedy loads blocks high upper
  pub start : (b end : ℕ) → b ≤ blocks → slice_index lower b ≤ end → end ≤ slice_index upper b → IsStart starts end

-- The runs are a merged chain that keeps the least division of the loads: the least bottleneck is from low to high, and
-- each greedy end within these limits, and within one below low, begins a run.
pub record IsMerged (loads runs starts : List ℕ) (blocks low high : ℕ) : Type 0 where
  pub runs_weigh : AreRuns loads runs starts
  pub bounds : (least : ℕ) × IsLeastPeak loads 0 blocks least × (low ≤ least) × (least ≤ high)
  pub ends : KeepsEnds loads starts blocks low high

-- whatever the runs of the elements before a part, these runs of the part, which end before these elements, go on with them
abbrev pub RunOn : List ℕ → ℕ → List ℕ → List ℕ → Type 0
RunOn part first runs ends =
    (before earlier starts : List ℕ) → length before ≡ first → AreRuns before earlier starts → AreRuns (before ++ part) (earlier ++ runs) (starts ++ ends)

-- where these runs start
abbrev pub unmerged : List ℕ → List ℕ → List ℕ
unmerged starts cuts = map (λ cut. slice_index starts cut) cuts

abbrev pub unmerged_floor : {A : Type 0} → List ℕ → Floor A → Floor A
unmerged_floor starts Zero = Zero
unmerged_floor starts (Fence stops) = Fence (unmerged starts stops)

-- the division whose cuts and stops are where the runs of this one's start
abbrev pub unmerged_division : {A : Type 0} → List ℕ → Division A → Division A
unmerged_division starts d =
    record { bottleneck = d.bottleneck; cuts = unmerged starts d.cuts; floor = unmerged_floor starts d.floor }
