-- The probe: each block in order takes as many elements as its PE can do by a time. Source: A. Pinar, E. K. Tabak and C. Aykanat,
-- "One-dimensional partitioning for heterogeneous systems: theory and practice", Journal of Parallel and Distributed Computing
-- 68(11), 2008. The time is n / v.
use Rattle.std.specs.Prelude.{◌≡◌, ℕ, ◌+◌, ◌<◌, ◌≤◌, List, length, slice_index}
use Rattle.lb_snapshot.specs.Measured.{load}
use Rattle.lb_certificates.specs.Chain.{IsDivision}
use Rattle.speed_certificates.specs.Speeds.{Pes, count, background_of, work_of, EndsBy}

-- with some division all PEs end by the time
abbrev pub CanEnd : List ℕ → Pes → ℕ → ℕ → Type 0
CanEnd loads pes n v =
    (cuts : List ℕ) × IsDivision 0 (length loads) (count pes) cuts × ((p : ℕ) → p < count pes → EndsBy pes n v p (work_of loads pes cuts p))

-- no background takes longer than the time
abbrev pub AllIdleBy : Pes → ℕ → ℕ → Type 0
AllIdleBy pes n v = (p : ℕ) → p < count pes → EndsBy pes n v p (background_of pes p)

-- of the ends of a block that begins at first, the greatest with which PE p ends by the time
pub record IsGreatestEndBy (loads : List ℕ) (pes : Pes) (n v p first end : ℕ) : Type 0 where
  pub inside : end ≤ length loads
  pub ends_by : EndsBy pes n v p (background_of pes p + load loads first end)
  pub greatest : (other : ℕ) → other ≤ length loads → EndsBy pes n v p (background_of pes p + load loads first other) → other ≤ end

-- 0, and then the end of each of so many blocks, the greatest that its PE allows
pub record IsGreedyBy (loads : List ℕ) (pes : Pes) (n v blocks : ℕ) (cuts : List ℕ) : Type 0 where
  pub counted : length cuts ≡ blocks + 1
  pub starts : slice_index cuts 0 ≡ 0
  pub greedy : (p : ℕ) → p < blocks → IsGreatestEndBy loads pes n v p (slice_index cuts p) (slice_index cuts (p + 1))
