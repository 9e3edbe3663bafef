use Rattle.std.proofs.Common.{take}
use Rattle.std.specs.Io.KnownBytes.{Appends}
use Rattle.run_checkpoint.specs.Text.{round_lines}
use Rattle.run_checkpoint.proofs.writing.put_rounds.Given as goal

abbrev pub invariant-loop-i : goal.invariant-loop-i
invariant-loop-i g l = Appends (g.W.Write.contents l.fn.writer) (g.W.Write.contents l.writer) (round_lines 1 (take l.i l.decided))
