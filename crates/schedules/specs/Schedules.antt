-- What the usual schedule is; and when a run on one thread does not begin, and for which reason.
use Rattle.std.specs.Prelude.{ℕ, ◌≤◌, None, false}
use Rattle.chare_index.specs.declared.limits.TheConstants.Limits.{PES, ELEMENTS}
use Rattle.rts_run.specs.Configs.{IsOneTo}
use Rattle.rts_run.specs.declared.error.RunError.{RunError}
use Rattle.rts_run.specs.declared.error.RunError.TheVariants as Why
use Rattle.rts_run.specs.declared.error.Setting.{Setting}
use Rattle.rts_run.specs.declared.error.Setting.TheVariants as Of
use Rattle.schedules.specs.declared.bias.Bias.{Bias}
use Rattle.schedules.specs.declared.schedule.Schedule.{Schedule}

-- nothing is drawn more often than the rest, or less often
abbrev pub no_bias : Bias
no_bias = record { letters_first = false; moves_first = false; stale_looks = false; starved = None }

-- n elements may run on the PEs of a schedule
abbrev pub MayExplore : Schedule → ℕ → Type 0
MayExplore schedule n = IsOneTo PES schedule.pes × (n ≤ ELEMENTS)

-- the first number that is out of its limits
abbrev pub IsFirstOutside : Schedule → ℕ → Setting → Type 0
IsFirstOutside schedule n Of.Pes = ¬ (IsOneTo PES schedule.pes)
IsFirstOutside schedule n Of.Elements = IsOneTo PES schedule.pes × ¬ (n ≤ ELEMENTS)
IsFirstOutside schedule n setting = ⊥

-- a number is out of its limits, or memory was refused
abbrev pub RefusesSchedule : Schedule → ℕ → RunError → Type 0
RefusesSchedule schedule n Why.Config = (setting : Setting) × IsFirstOutside schedule n setting
RefusesSchedule schedule n Why.OutOfMemory = MayExplore schedule n
