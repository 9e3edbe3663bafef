use Rattle.std.proofs.Common.{◌≡◌, ◌++◌, take}
use Rattle.std.specs.List.{flat_map}
use Rattle.run_trace.specs.Shown.{shown}
use Rattle.run_trace.proofs.shown.push_happenings.Given as goal

abbrev pub invariant-loop-happening : goal.invariant-loop-happening
invariant-loop-happening g l = l.events.items ≡ l.initial.events.items ++ flat_map shown (take l.happening-index l.happenings)
