-- When a run does not begin, and for which reason.
use Rattle.std.specs.Prelude.{ℕ, ◌≤◌}
use Rattle.chare_index.specs.declared.limits.TheConstants.Limits.{PES, CAPACITY, IDLE_TURNS, PROBE_WORKERS, ELEMENTS}
use Rattle.rts_run.specs.declared.config.Config.{Config}
use Rattle.rts_run.specs.declared.error.RunError.{RunError}
use Rattle.rts_run.specs.declared.error.RunError.TheVariants as Why
use Rattle.rts_run.specs.declared.error.Setting.{Setting}
use Rattle.rts_run.specs.declared.error.Setting.TheVariants as Of

-- every number of a run is from 1 up to its limit
pub record IsWithin (config : Config) : Type 0 where
  pub some_pe : 1 ≤ config.pes
  pub few_pes : config.pes ≤ PES
  pub some_capacity : 1 ≤ config.capacity
  pub few_parcels : config.capacity ≤ CAPACITY
  pub some_turn : 1 ≤ config.turns
  pub few_turns : config.turns ≤ IDLE_TURNS
  pub some_worker : 1 ≤ config.probe_workers
  pub few_workers : config.probe_workers ≤ PROBE_WORKERS

-- a run of n elements may begin
abbrev pub MayBegin : Config → ℕ → Type 0
MayBegin config n = IsWithin config × (n ≤ ELEMENTS)

-- from 1 up to this limit
abbrev pub IsOneTo : ℕ → ℕ → Type 0
IsOneTo most n = (1 ≤ n) × (n ≤ most)

-- the first number that is out of its limits is this one, in a run of n elements
abbrev pub IsFirstOutside : Config → ℕ → Setting → Type 0
IsFirstOutside config n Of.Pes = ¬ (IsOneTo PES config.pes)
IsFirstOutside config n Of.Capacity = IsOneTo PES config.pes × ¬ (IsOneTo CAPACITY config.capacity)
IsFirstOutside config n Of.Turns =
    IsOneTo PES config.pes × IsOneTo CAPACITY config.capacity × ¬ (IsOneTo IDLE_TURNS config.turns)
IsFirstOutside config n Of.ProbeWorkers =
    IsOneTo PES config.pes × IsOneTo CAPACITY config.capacity × IsOneTo IDLE_TURNS config.turns
    × ¬ (IsOneTo PROBE_WORKERS config.probe_workers)
IsFirstOutside config n Of.Elements = IsWithin config × ¬ (n ≤ ELEMENTS)

-- a run of n elements does not begin where a number is out of its limits, and otherwise only where memory runs out
abbrev pub RefusesRun : Config → ℕ → RunError → Type 0
RefusesRun config n Why.Config = (setting : Setting) × IsFirstOutside config n setting
RefusesRun config n Why.OutOfMemory = MayBegin config n

-- the numbers of the kinds of errors
abbrev pub error_number : RunError → ℕ
error_number Why.Config = 1
error_number Why.OutOfMemory = 2
