-- The search for the least time, by times in ticks that enclose it.
use Rattle.std.specs.Prelude.{ℕ, ◌<◌, ◌≤◌, List}
use Rattle.speed_certificates.specs.Speeds.{Pes}
use Rattle.speed_partition.specs.Greedy.{CanEnd}
use Rattle.speed_partition.specs.declared.walk.Bound.{Bound}
use Rattle.speed_partition.specs.declared.walk.Bound.TheVariants.{Fits, Stops}

-- not all PEs can end by a time before this one
abbrev pub StopBefore : List ℕ → Pes → ℕ → ℕ → Type 0
StopBefore loads pes scale low = (ticks : ℕ) → ticks < low → ¬ (CanEnd loads pes ticks scale)

-- What the walk within a time shows of other times. Where it places all elements, all PEs can end by the latest end in it. Where
-- it does not, they cannot before the least time by which a block would take one more.
abbrev pub Shows : List ℕ → Pes → ℕ → ℕ → Bound → Type 0
Shows loads pes scale ticks (Fits latest) = (latest ≤ ticks) × CanEnd loads pes latest scale
Shows loads pes scale ticks (Stops next) = (ticks < next) × StopBefore loads pes scale next

-- what a walk within some time from low on and before high shows
abbrev pub WasTried : List ℕ → Pes → ℕ → ℕ → ℕ → Bound → Type 0
WasTried loads pes scale low high bound = (ticks : ℕ) × (low ≤ ticks) × (ticks < high) × Shows loads pes scale ticks bound

-- the least time is low, high or between them
pub record Enclose (loads : List ℕ) (pes : Pes) (scale low high : ℕ) : Type 0 where
  pub stops : StopBefore loads pes scale low
  pub fits : CanEnd loads pes high scale

-- the least number of ticks by which all PEs can end
pub record IsLeastTicks (loads : List ℕ) (pes : Pes) (scale ticks : ℕ) : Type 0 where
  pub fits : CanEnd loads pes ticks scale
  pub stops : StopBefore loads pes scale ticks
