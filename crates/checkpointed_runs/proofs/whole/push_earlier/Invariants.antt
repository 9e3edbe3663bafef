use Rattle.std.proofs.Common.{◌≡◌, ◌++◌}
use Rattle.std.specs.List.{flat_map, range_with_len}
use Rattle.std.specs.String.{string_bytes}
use Rattle.checkpointed_runs.specs.Whole.{earlier_line}
use Rattle.checkpointed_runs.proofs.whole.push_earlier.Given as goal

abbrev pub invariant-loop-i : goal.invariant-loop-i
invariant-loop-i g l =
    string_bytes l.text ≡ string_bytes l.initial.text ++ flat_map (earlier_line l.decided) (range_with_len 1 l.i)
