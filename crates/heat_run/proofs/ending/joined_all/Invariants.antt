use Rattle.std.proofs.Common.{◌≡◌, take}
use Rattle.std.specs.List.{fold}
use Rattle.heat_run.specs.Checksums.{joined}
use Rattle.heat_run.proofs.ending.joined_all.Given as goal

abbrev pub invariant-loop-cell : goal.invariant-loop-cell
invariant-loop-cell l = l.sum ≡ fold joined l.initial.sum (take l.cell-index l.cells)
