-- What is measured of the elements of a chare array in one round, and its limits.
use Rattle.std.specs.Prelude.{Bool, ◌==◌, ◌&&◌, ◌≡◌, ℕ, ◌<◌, ◌≤◌, List, length, sum, slice_range, All}
use Rattle.chare_index.specs.declared.limits.TheConstants.Limits.{ELEMENTS, PES, LOAD, STATE_BYTES}

-- one load for each element
pub record IsLoads (loads : List ℕ) : Type 0 where
  pub few : length loads ≤ ELEMENTS
  pub small : All (λ units. units ≤ LOAD) loads

-- the load of the elements a..b
abbrev pub load : List ℕ → ℕ → ℕ → ℕ
load loads a b = sum (slice_range loads a b)

-- for each element its packed size in bytes and the PE that it is on
pub record IsSizes (sizes : List (ℕ × ℕ)) : Type 0 where
  pub few : length sizes ≤ ELEMENTS
  pub small : All (λ size. size.0 ≤ STATE_BYTES) sizes

-- the loads, sizes and places of all elements, taken at one step of a run on procs PEs
pub record Taken : Type 0 where
  pub step : ℕ
  pub procs : ℕ
  pub loads : List ℕ
  pub sizes : List (ℕ × ℕ)

-- there is a load for each size, and each element is on one of the procs PEs
pub record IsTaken (procs : ℕ) (loads : List ℕ) (sizes : List (ℕ × ℕ)) : Type 0 where
  pub some_pe : 0 < procs
  pub few_pes : procs ≤ PES
  pub paired : length loads ≡ length sizes
  pub placed : All (λ size. size.1 < procs) sizes

-- equal sizes and equal places
abbrev pub same_size : ℕ × ℕ → ℕ × ℕ → Bool
same_size a b = (a.0 == b.0) && (a.1 == b.1)
