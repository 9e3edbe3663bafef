use Rattle.std.proofs.Common.{◌≡◌, ◌++◌}
use Rattle.std.specs.String.{string_bytes}
use Rattle.lb_replay.specs.Text.{block_lines}
use Rattle.lb_replay.proofs.text.push_blocks.Given as goal

abbrev pub invariant-loop-b : goal.invariant-loop-b
invariant-loop-b g l =
    string_bytes l.text ≡ string_bytes l.initial.text ++ block_lines l.loads l.cuts l.names l.b
