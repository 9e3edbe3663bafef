use Rattle.std.proofs.Common.{◌≡◌, ◌++◌, drop}
use Rattle.std.specs.List.{flat_map}
use Rattle.std.specs.String.{string_bytes}
use Rattle.workload.specs.Text.{blank_number}
use Rattle.run_checkpoint.proofs.writing.push_line.Given as goal

abbrev pub invariant-loop-number : goal.invariant-loop-number
invariant-loop-number g l =
    string_bytes l.text ++ flat_map blank_number (drop l.number-index l.numbers) ≡ l.word ++ flat_map blank_number l.numbers
