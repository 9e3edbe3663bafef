-- The exit status of a program for the end of its replay or its check.
use Rattle.std.specs.Prelude.{ℕ}
use Rattle.dump_format.specs.declared.error.DumpError.{DumpError}
use Rattle.lb_strategy.specs.declared.error.PlanError.{PlanError}
use Rattle.lb_replay.specs.declared.ended.Ended.{Ended}
use Rattle.lb_replay.specs.declared.ended.Ended.TheVariants.{Printed, Flawed, NoDecision, WriteFailed}

-- 0 where the text was printed or the decision is right, 3 for a fault of the dump, 4 for a flaw of its decision or where
-- it has none, 5 where memory or the output failed
abbrev pub status_of : Ended → ℕ
status_of Printed = 0
status_of (Ended.Dump DumpError.OutOfMemory) = 5
status_of (Ended.Dump e) = 3
status_of (Ended.Plan PlanError.OutOfMemory) = 5
status_of (Flawed flaw) = 4
status_of NoDecision = 4
status_of WriteFailed = 5
