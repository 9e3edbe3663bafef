-- The status that a program exits with for the end of a workload's run.
use Rattle.std.specs.Prelude.{ℕ, None, Some}
use Rattle.workload_run.specs.declared.ended.RunEnd.{RunEnd}
use Rattle.workload_run.specs.declared.ended.RunEnd.TheVariants.{Ran, Refused, OutOfMemory, WriteFailed}

-- 0 where the run ended well, 3 for a fault of the workload, 4 for a fault of the run, 5 where memory or the output failed
abbrev pub status_of : RunEnd → ℕ
status_of (Ran None) = 0
status_of (Ran (Some fault)) = 4
status_of (Refused e) = 3
status_of OutOfMemory = 5
status_of WriteFailed = 5
