-- What the load database of a chare array holds during a round. Source: the Charm++ manual on measurement-based load balancing.
-- The runtime measures the work of each element; an element that reaches AtSync reports its size and its place and waits; once
-- all have done so, there is what a strategy decides on. That a load does not grow past a limit is this project's choice.
use Rattle.std.specs.Prelude.{◌≡◌, ℕ, ◌+◌, ◌<◌, ◌≤◌, min, List, length, All, map, replicate, slice_index, slice_index_or, slice_set, Option, None, Some, IsSome, IfSome}
use Rattle.chare_index.specs.declared.limits.TheConstants.Limits.{ELEMENTS, ROUND, LOAD, STATE_BYTES}
use Rattle.lb_snapshot.specs.Measured.{Taken, IsLoads}

-- What was measured so far in the round: the units charged to each element, and for each element that has reported its packed
-- size in bytes and the PE that it is on
pub record Measured : Type 0 where
  pub round : ℕ
  pub loads : List ℕ
  pub reports : List (Option (ℕ × ℕ))

-- the number of elements
abbrev pub elements : Measured → ℕ
elements m = length m.loads

-- a load is at most the limit: units above it are not counted
abbrev pub saturated : ℕ → ℕ
saturated units = min units LOAD

-- a round of n elements as it begins: no units, and no reports
abbrev pub opening : ℕ → ℕ → Measured
opening round n = record { round = round; loads = replicate n 0; reports = replicate n None }

-- what element i has reported
abbrev pub report_of : Measured → ℕ → Option (ℕ × ℕ)
report_of m i = slice_index_or m.reports i None

-- every element has reported
abbrev pub IsComplete : Measured → Type 0
IsComplete m = All IsSome m.reports

-- each element that has reported is on one of the PEs 0..pes
abbrev pub StandBelow : ℕ → Measured → Type 0
StandBelow pes m = All (λ report. IfSome report (λ size. size.1 < pes)) m.reports

-- with more units for element i
abbrev pub with_charge : Measured → ℕ → ℕ → Measured
with_charge m i units = record { round = m.round; loads = slice_set m.loads i (saturated (slice_index m.loads i + units)); reports = m.reports }

-- with the report of element i
abbrev pub with_report : Measured → ℕ → ℕ → ℕ → Measured
with_report m i bytes place = record { round = m.round; loads = m.loads; reports = slice_set m.reports i (Some (bytes, place)) }

-- the snapshot of a complete round: its loads, and for each element the size and the place that it reported
pub record IsSnapshotOf (m : Measured) (step pes : ℕ) (taken : Taken) : Type 0 where
  pub at_step : taken.step ≡ step
  pub on_pes : taken.procs ≡ pes
  pub loads_charged : taken.loads ≡ m.loads
  pub sizes_reported : map Some taken.sizes ≡ m.reports

-- one report or none for each element, and each reported size within the limit
pub record AreReports (reports : List (Option (ℕ × ℕ))) : Type 0 where
  pub few : length reports ≤ ELEMENTS
  pub small : All (λ report. IfSome report (λ size. size.0 ≤ STATE_BYTES)) reports

-- what is measured keeps the limits, and both lists are of the same elements
pub record IsMeasured (m : Measured) : Type 0 where
  pub started : 0 < m.round
  pub numbered : m.round ≤ ROUND
  pub charged_within : IsLoads m.loads
  pub reported_within : AreReports m.reports
  pub paired : length m.loads ≡ length m.reports
