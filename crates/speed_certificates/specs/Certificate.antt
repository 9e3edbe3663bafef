-- What proves that the greatest end time of a division is least. Source: A. Pinar, E. K. Tabak and C. Aykanat, Journal of Parallel
-- and Distributed Computing 68(11), 2008, by the bottleneck values that a probe over PEs of unequal speed refuses.
use Rattle.std.specs.Prelude.{◌≡◌, ℕ, ◌+◌, ◌-◌, ◌*◌, ◌<◌, ◌≤◌, List, length, slice_index}
use Rattle.std.specs.List.Sorted.{IsNonDecreasing}
use Rattle.lb_snapshot.specs.Measured.{load}
use Rattle.lb_certificates.specs.Chain.{IsDivision}
use Rattle.speed_certificates.specs.declared.time.EndTime.{EndTime}
use Rattle.speed_certificates.specs.declared.division.TimeFloor.{TimeFloor}
use Rattle.speed_certificates.specs.declared.division.TimeFloor.TheVariants.{Idle, Fence}
use Rattle.speed_certificates.specs.declared.division.TimedDivision.{TimedDivision}
use Rattle.speed_certificates.specs.Speeds.{Pes, count, background_of, EndsBy, EndsFrom, work_of}

-- of the first k PEs none ends after the time
abbrev pub NoneLate : List ℕ → Pes → EndTime → List ℕ → ℕ → Type 0
NoneLate loads pes t cuts k = (p : ℕ) → p < k → EndsBy pes t.work t.speed p (work_of loads pes cuts p)

-- the work of PE i - 1 if its block were the elements from stop i - 1 to stop i, both included; i begins at 1
abbrev pub range_work : List ℕ → Pes → List ℕ → ℕ → ℕ
range_work loads pes stops i =
    background_of pes (i - 1) + load loads (slice_index stops (i - 1)) (slice_index stops i + 1)

-- of the first k PEs none would then end before the time
abbrev pub NoneEarly : List ℕ → Pes → EndTime → List ℕ → ℕ → Type 0
NoneEarly loads pes t stops k =
    (i : ℕ) → 0 < i → i ≤ k → EndsFrom pes t.work t.speed (i - 1) (range_work loads pes stops i)

-- the first i of them for which the PE would
pub record IsFirstEarly (loads : List ℕ) (pes : Pes) (t : EndTime) (stops : List ℕ) (k i : ℕ) : Type 0 where
  pub positive : 0 < i
  pub inside : i ≤ k
  pub early : range_work loads pes stops i * t.speed < t.work * slice_index pes.speeds (i - 1)
  pub earlier : NoneEarly loads pes t stops (i - 1)

-- A fence for a time: one stop more than there are PEs, in non-decreasing order, the first 0 and the last an element. With the
-- elements from each stop to the next, both included, the PE of the first stop's number ends at the time or later. So blocks with
-- which all PEs end before the time would each end at the stop after it or before that, and none would have the last stop.
pub record IsTimeFence (loads : List ℕ) (pes : Pes) (t : EndTime) (stops : List ℕ) : Type 0 where
  pub counted : length stops ≡ count pes + 1
  pub starts : slice_index stops 0 ≡ 0
  pub ordered : IsNonDecreasing stops
  pub ends : slice_index stops (count pes) < length loads
  pub none_early : NoneEarly loads pes t stops (count pes)

-- one fact for a floor that names a PE, and another for a fence
abbrev pub MatchFloor : {A : Type 0} → TimeFloor A → (ℕ → Type 0) → (List ℕ → Type 0) → Type 0
MatchFloor (Idle pe) idle fence = idle pe
MatchFloor (Fence stops) idle fence = fence stops

-- the background of PE p takes until the time or longer
pub record IsIdleFrom (pes : Pes) (t : EndTime) (p : ℕ) : Type 0 where
  pub inside : p < count pes
  pub from : EndsFrom pes t.work t.speed p (background_of pes p)

-- the floor shows that each division has a PE that ends at the time or later
abbrev pub HoldsFrom : {A : Type 0} → List ℕ → Pes → EndTime → TimeFloor A → Type 0
HoldsFrom loads pes t floor = MatchFloor floor (IsIdleFrom pes t) (IsTimeFence loads pes t)

-- the cuts divide these loads into a block for each PE, no PE ends after the time, and the floor holds
pub record IsTimeCertified {A : Type 0} (loads : List ℕ) (pes : Pes) (division : TimedDivision A) : Type 0 where
  pub some_speed : 1 ≤ division.time.speed
  pub divides : IsDivision 0 (length loads) (count pes) division.cuts
  pub none_late : NoneLate loads pes division.time division.cuts (count pes)
  pub floor_holds : HoldsFrom loads pes division.time division.floor
