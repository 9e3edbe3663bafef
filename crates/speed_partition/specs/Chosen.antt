-- Which of all least divisions is returned, how its time is written, and with which floor.
use Rattle.std.specs.Prelude.{◌≡◌, ℕ, ◌+◌, ◌*◌, ◌<◌, ◌≤◌, List, slice_index}
use Rattle.lb_snapshot.specs.Measured.{load}
use Rattle.speed_certificates.specs.declared.time.EndTime.{EndTime}
use Rattle.speed_certificates.specs.declared.division.TimeFloor.{TimeFloor}
use Rattle.speed_certificates.specs.declared.division.TimedDivision.{TimedDivision}
use Rattle.speed_certificates.specs.Speeds.{Pes, count, speed_of, background_of, work_of, EndsBy, EndsFrom, IsLeastTime}
use Rattle.speed_certificates.specs.Certificate.{IsIdleFrom, IsTimeFence, MatchFloor}
use Rattle.speed_partition.specs.Greedy.{IsGreedyBy}

-- of the first k PEs, the end of the first one that none of them ends after
pub record IsFirstLatest (loads : List ℕ) (pes : Pes) (cuts : List ℕ) (k : ℕ) (t : EndTime) : Type 0 where
  pub pe : ℕ
  pub inside : pe < k
  pub work_is : t.work ≡ work_of loads pes cuts pe
  pub speed_is : t.speed ≡ speed_of pes pe
  pub none_later : (p : ℕ) → p < k → EndsBy pes t.work t.speed p (work_of loads pes cuts p)
  pub earlier : (p : ℕ) → p < pe → work_of loads pes cuts p * t.speed < t.work * speed_of pes p

-- of the first k PEs none has a background that takes until the time or longer
abbrev pub NoneIdle : Pes → EndTime → ℕ → Type 0
NoneIdle pes t k = (p : ℕ) → p < k → background_of pes p * t.speed < t.work * speed_of pes p

-- the first PE that has one
pub record IsFirstIdle (pes : Pes) (t : EndTime) (p : ℕ) : Type 0 where
  pub idle : IsIdleFrom pes t p
  pub earlier : NoneIdle pes t p

-- from first on, the first element up to which PE p would end at the time or later
pub record IsLeastStopFrom (loads : List ℕ) (pes : Pes) (t : EndTime) (p first stop : ℕ) : Type 0 where
  pub onward : first ≤ stop
  pub from : EndsFrom pes t.work t.speed p (background_of pes p + load loads first (stop + 1))
  pub least : (other : ℕ) → first ≤ other → EndsFrom pes t.work t.speed p (background_of pes p + load loads first (other + 1)) → stop ≤ other

-- a fence in which each stop is as near to the one before it as can be
pub record IsLeastTimeFence (loads : List ℕ) (pes : Pes) (t : EndTime) (stops : List ℕ) : Type 0 where
  pub fence : IsTimeFence loads pes t stops
  pub least : (p : ℕ) → p < count pes → IsLeastStopFrom loads pes t p (slice_index stops p) (slice_index stops (p + 1))

-- the floor names the first PE whose background takes until the time or longer, and where none does it is the least fence
abbrev pub IsLeastFloor : {A : Type 0} → List ℕ → Pes → EndTime → TimeFloor A → Type 0
IsLeastFloor loads pes t floor =
    MatchFloor floor (IsFirstIdle pes t) (λ stops. NoneIdle pes t (count pes) × IsLeastTimeFence loads pes t stops)

-- The chosen division: its time is the least greatest end time, written as the end of the first PE that ends then; its cuts are the
-- greedy ones by the time, and its floor is the least one.
pub record IsChosen {A : Type 0} (loads : List ℕ) (pes : Pes) (d : TimedDivision A) : Type 0 where
  pub least_time : IsLeastTime loads pes d.cuts d.time
  pub first_latest : IsFirstLatest loads pes d.cuts (count pes) d.time
  pub greedy : IsGreedyBy loads pes d.time.work d.time.speed (count pes) d.cuts
  pub floor : IsLeastFloor loads pes d.time d.floor

-- no other division is the chosen one
abbrev pub IsTheOnly : {A : Type 0} → List ℕ → Pes → TimedDivision A → Type 0
IsTheOnly loads pes d = (other : TimedDivision _) → IsChosen loads pes other → other ≡ d
