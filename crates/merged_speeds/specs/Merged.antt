-- Which runs of consecutive elements a chain may be merged into without a change of its least division over PEs of unequal speed.
-- Merging is this project's way to divide a chain that no rank holds.
use Rattle.std.specs.Prelude.{ℕ, ◌+◌, ◌-◌, ◌≤◌, List, slice_index}
use Rattle.merged_chains.specs.Merged.{AreRuns, IsStart, unmerged}
use Rattle.speed_certificates.specs.declared.division.TimeFloor.{TimeFloor}
use Rattle.speed_certificates.specs.declared.division.TimeFloor.TheVariants.{Idle, Fence}
use Rattle.speed_certificates.specs.declared.division.TimedDivision.{TimedDivision}
use Rattle.speed_certificates.specs.Speeds.{Pes, count}
use Rattle.speed_partition.specs.Greedy.{IsGreedyBy}
use Rattle.speed_partition.specs.Search.{IsLeastTicks}
use Rattle.speed_partition.specs.Ticks.{IsScale}

-- each greedy end by a time from one tick before low to high begins a run
abbrev pub KeepsEndsBy : List ℕ → Pes → List ℕ → ℕ → ℕ → ℕ → Type 0
KeepsEndsBy loads pes starts scale low high =
    (ticks : ℕ) (ends : List ℕ) → low ≤ ticks + 1 → ticks ≤ high → IsGreedyBy loads pes ticks scale (count pes) ends
    → (p : ℕ) → p ≤ count pes → IsStart starts (slice_index ends p)

-- windows that keep these ends: for each PE, all elements from the end of its block in a walk by one tick before low to that in a
-- walk by high begin runs
pub record AreTimeWindows (loads : List ℕ) (pes : Pes) (starts : List ℕ) (scale low high : ℕ) : Type 0 where
  pub lower : List ℕ
  pub upper : List ℕ
  pub lower_walk : IsGreedyBy loads pes (low - 1) scale (count pes) lower
  pub upper_walk : IsGreedyBy loads pes high scale (count pes) upper
  pub start : (p end : ℕ) → p ≤ count pes → slice_index lower p ≤ end → end ≤ slice_index upper p → IsStart starts end

-- a merged chain that keeps the least division: low and high enclose the least time, and the runs keep the ends
pub record IsTimeMerged (loads runs starts : List ℕ) (pes : Pes) (scale low high : ℕ) : Type 0 where
  pub runs_weigh : AreRuns loads runs starts
  pub scale_fits : IsScale pes scale
  pub bounds : (least : ℕ) × IsLeastTicks loads pes scale least × (low ≤ least) × (least ≤ high)
  pub ends : KeepsEndsBy loads pes starts scale low high

abbrev pub unmerged_time_floor : {A : Type 0} → List ℕ → TimeFloor A → TimeFloor A
unmerged_time_floor starts (Idle p) = Idle p
unmerged_time_floor starts (Fence stops) = Fence (unmerged starts stops)

-- the division of the chain: each cut and stop is where its run starts
abbrev pub unmerged_timed : {A : Type 0} → List ℕ → TimedDivision A → TimedDivision A
unmerged_timed starts d =
    record { time = d.time; cuts = unmerged starts d.cuts; floor = unmerged_time_floor starts d.floor }
