use Rattle.std.proofs.Common.{◌≡◌, ◌++◌, drop}
use Rattle.run_trace.specs.Steps.{happenings_from}
use Rattle.run_trace.proofs.timeline.Timeline.of_steps.Given as goal

abbrev pub invariant-loop-number : goal.invariant-loop-number
invariant-loop-number g l = l.happenings.items ++ happenings_from l.number (drop l.number l.steps) ≡ happenings_from 0 l.steps
