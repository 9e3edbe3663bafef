use Rattle.std.proofs.Common.{◌≡◌, ◌++◌, drop}
use Rattle.std.specs.String.{string_bytes}
use Rattle.event_lists.specs.Text.{numbers_line}
use Rattle.event_lists.proofs.writer.push_line.Given as goal

abbrev pub invariant-loop-number : goal.invariant-loop-number
invariant-loop-number g l =
    string_bytes l.text ++ numbers_line (drop l.number-index l.numbers) ≡ string_bytes l.fn.text ++ (l.name ++ numbers_line l.numbers)
