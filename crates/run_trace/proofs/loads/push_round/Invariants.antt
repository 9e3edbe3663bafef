use Rattle.std.proofs.Common.{◌≡◌, ◌++◌, map}
use Rattle.std.specs.List.{range_with_len}
use Rattle.run_trace.specs.Shown.{load_event}
use Rattle.run_trace.proofs.loads.push_round.Given as goal

abbrev pub invariant-loop-pe : goal.invariant-loop-pe
invariant-loop-pe g l = l.events.items ≡ l.initial.events.items ++ map (load_event l.at l.snapshot) (range_with_len 0 l.pe)
