use Rattle.std.specs.List.{All}
use Rattle.report_command_line.specs.Numbers.{IsNumber}
use Rattle.report_command_line.proofs.spelled.read.Given as goal

abbrev pub invariant-loop-piece : goal.invariant-loop-piece
invariant-loop-piece g l = All IsNumber l.found.items
