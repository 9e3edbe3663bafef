use Rattle.std.proofs.Common.{ℕ, ◌<◌, slice_index}
use Rattle.speed_namings.specs.Timely.{MayRun}
use Rattle.speed_namings.proofs.name_check.first_late.Given as goal

abbrev pub invariant-loop-b : goal.invariant-loop-b
invariant-loop-b l = (k : ℕ) → k < l.b → MayRun l.loads l.pes l.time k (slice_index l.names k)
