-- A chain of elements with loads, divided into consecutive blocks, one for each PE in order, where the PEs have speeds of their
-- own: the chains-on-chains partitioning problem for heterogeneous systems. Source: A. Pinar, E. K. Tabak and C. Aykanat,
-- "One-dimensional partitioning for heterogeneous systems: theory and practice", Journal of Parallel and Distributed Computing
-- 68(11), 2008.
-- That a PE may have work besides its block is this project's addition; other balancers call it background load.
use Rattle.std.specs.Prelude.{◌≡◌, ℕ, ◌+◌, ◌*◌, ◌<◌, ◌≤◌, List, All, length, slice_index}
use Rattle.lb_certificates.specs.Chain.{block_load, IsDivision}
use Rattle.speed_certificates.specs.declared.limits.TheConstants.SpeedLimits.{PES, SPEED, BACKGROUND}
use Rattle.speed_certificates.specs.declared.time.EndTime.{EndTime}

-- what each PE does in a unit of time, and what it has to do besides its block
pub record Pes : Type 0 where
  pub speeds : List ℕ
  pub background : List ℕ

-- at least one PE, each with a speed above 0 and a background, all within the limits
pub record ArePes (pes : Pes) : Type 0 where
  pub some_pe : 1 ≤ length pes.speeds
  pub few_pes : length pes.speeds ≤ PES
  pub paired : length pes.speeds ≡ length pes.background
  pub speeds : All (λ speed. (1 ≤ speed) × (speed ≤ SPEED)) pes.speeds
  pub background : All (λ units. units ≤ BACKGROUND) pes.background

-- the number of PEs
abbrev pub count : Pes → ℕ
count pes = length pes.speeds

abbrev pub speed_of : Pes → ℕ → ℕ
speed_of pes p = slice_index pes.speeds p

abbrev pub background_of : Pes → ℕ → ℕ
background_of pes p = slice_index pes.background p

-- With this work PE p ends at work / speed. That is at the time n / v or earlier,
abbrev pub EndsBy : Pes → ℕ → ℕ → ℕ → ℕ → Type 0
EndsBy pes n v p work = work * v ≤ n * speed_of pes p

-- or then or later
abbrev pub EndsFrom : Pes → ℕ → ℕ → ℕ → ℕ → Type 0
EndsFrom pes n v p work = n * speed_of pes p ≤ work * v

-- what PE p has to do in all: its background and block p
abbrev pub work_of : List ℕ → Pes → List ℕ → ℕ → ℕ
work_of loads pes cuts p = background_of pes p + block_load loads cuts p

-- the greatest end time of these cuts: all PEs end by it, and one of them at it
pub record IsGreatestTime (loads : List ℕ) (pes : Pes) (cuts : List ℕ) (t : EndTime) : Type 0 where
  pub none_later : (p : ℕ) → p < count pes → EndsBy pes t.work t.speed p (work_of loads pes cuts p)
  pub reached : (p : ℕ) × (p < count pes) × (work_of loads pes cuts p * t.speed ≡ t.work * speed_of pes p)

-- the first time is the second or before it
abbrev pub IsNoLater : EndTime → EndTime → Type 0
IsNoLater t other = t.work * other.speed ≤ other.work * t.speed

-- The cuts divide all elements into a block for each PE, this is their greatest end time, and no division has a lower one: each has
-- a PE that ends then or later.
pub record IsLeastTime (loads : List ℕ) (pes : Pes) (cuts : List ℕ) (t : EndTime) : Type 0 where
  pub some_speed : 1 ≤ t.speed
  pub divides : IsDivision 0 (length loads) (count pes) cuts
  pub greatest : IsGreatestTime loads pes cuts t
  pub least : (others : List ℕ) (u : EndTime) → IsDivision 0 (length loads) (count pes) others → 1 ≤ u.speed → IsGreatestTime loads pes others u → IsNoLater t u
  pub some_late : (others : List ℕ) → IsDivision 0 (length loads) (count pes) others → (p : ℕ) × (p < count pes) × EndsFrom pes t.work t.speed p (work_of loads pes others p)
