use Rattle.std.proofs.Common.{◌≡◌, ◌++◌}
use Rattle.std.specs.List.{flat_map, range_with_len}
use Rattle.std.specs.String.{string_bytes}
use Rattle.run_text.specs.Text.{decided_line}
use Rattle.run_text.proofs.text.push_rounds.Given as goal

abbrev pub invariant-loop-i : goal.invariant-loop-i
invariant-loop-i g l =
    string_bytes l.text ≡ string_bytes l.initial.text ++ flat_map (decided_line l.rounds) (range_with_len 1 l.i)
