use Rattle.std.proofs.Common.{◌≡◌, ◌++◌}
use Rattle.run_trace.specs.Shown.{rows}
use Rattle.run_trace.proofs.shown.push_rows.Given as goal

abbrev pub invariant-loop-pe : goal.invariant-loop-pe
invariant-loop-pe g l = l.events.items ≡ l.initial.events.items ++ rows l.pe
