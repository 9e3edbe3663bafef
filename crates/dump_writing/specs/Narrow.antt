-- Which snapshots the format LBD1 can represent, and why no text is made of others.
use Rattle.std.specs.Prelude.{ℕ, ◌^◌, ◌<◌, ◌≤◌, List, length, slice_index, All}
use Rattle.lb_snapshot.specs.Measured.{Taken}
use Rattle.dump_format.specs.Dumps.{IsSnapshot}
use Rattle.dump_format.specs.declared.error.DumpError.{DumpError}
use Rattle.dump_format.specs.declared.error.DumpError.TheVariants.{OutOfMemory, Wide}

-- a snapshot of these parts
abbrev pub taken : ℕ → ℕ → List ℕ → List (ℕ × ℕ) → Taken
taken step procs loads sizes = record { step = step; procs = procs; loads = loads; sizes = sizes }

-- a snapshot each of whose numbers fits its four bytes
pub record IsNarrow (s : Taken) : Type 0 where
  pub snapshot : IsSnapshot s
  pub step : s.step < 2 ^ 32
  pub narrow : All (λ load. load < 2 ^ 32) s.loads

-- the first load that does not
pub record IsFirstWide (loads : List ℕ) (i : ℕ) : Type 0 where
  pub inside : i < length loads
  pub wide : 2 ^ 32 ≤ slice_index loads i
  pub earlier : (k : ℕ) → k < i → slice_index loads k < 2 ^ 32

-- the fault names that load
abbrev pub IsWideAt : List ℕ → DumpError → Type 0
IsWideAt loads (Wide i) = IsFirstWide loads i
IsWideAt loads e = ⊥

-- Why the text of a snapshot with these loads was not made: the first load that is too great is reported, and memory is
-- requested only where there is none.
abbrev pub RefusesLbd1 : List ℕ → DumpError → Type 0
RefusesLbd1 loads (Wide i) = IsFirstWide loads i
RefusesLbd1 loads OutOfMemory = All (λ load. load < 2 ^ 32) loads
RefusesLbd1 loads e = ⊥
