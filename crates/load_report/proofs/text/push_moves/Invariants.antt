use Rattle.std.proofs.Common.{◌≡◌, ◌++◌, take}
use Rattle.load_report.specs.Text.{move_lines}
use Rattle.load_report.proofs.text.push_moves.Given as goal

abbrev pub invariant-loop-step : goal.invariant-loop-step
invariant-loop-step g l =
    l.text.items ≡ l.initial.text.items ++ move_lines l.csv l.name l.sizes l.pes (take l.step-index l.moves)
