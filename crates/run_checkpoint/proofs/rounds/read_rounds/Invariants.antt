use Rattle.run_checkpoint.proofs.RoundLines.{Before}
use Rattle.run_checkpoint.proofs.rounds.read_rounds.Given as goal

abbrev pub invariant-loop-i : goal.invariant-loop-i
invariant-loop-i g l = Before l.bytes l.decided.items l.i l.rest
