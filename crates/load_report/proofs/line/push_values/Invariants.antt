use Rattle.std.proofs.Common.{◌≡◌, ◌++◌, take}
use Rattle.std.specs.List.{flat_map}
use Rattle.load_report.specs.Text.{separated}
use Rattle.load_report.proofs.line.push_values.Given as goal

abbrev pub invariant-loop-column : goal.invariant-loop-column
invariant-loop-column g l =
    l.text.items ≡ l.initial.text.items ++ flat_map separated (take l.column-index l.columns)
