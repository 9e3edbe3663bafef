use Rattle.std.proofs.Common.{◌≡◌, ◌++◌, take}
use Rattle.std.specs.String.{string_bytes}
use Rattle.report_command_line.specs.Numbers.{numerals_after}
use Rattle.report_command_line.proofs.spelled.write.Given as goal

abbrev pub invariant-loop-other : goal.invariant-loop-other
invariant-loop-other g l =
    string_bytes l.text ≡ string_bytes l.initial.text ++ numerals_after (take l.other-index l.others)
