use Rattle.std.proofs.Common.{◌≡◌, ◌++◌, take}
use Rattle.std.specs.List.{flat_map}
use Rattle.load_report.specs.Text.{quoted_byte}
use Rattle.load_report.proofs.line.push_quoted.Given as goal

abbrev pub invariant-loop-byte : goal.invariant-loop-byte
invariant-loop-byte g l =
    l.text.items ≡ l.initial.text.items ++ flat_map quoted_byte (take l.byte-index l.name)
