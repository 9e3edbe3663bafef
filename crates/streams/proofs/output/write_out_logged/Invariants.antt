use Rattle.std.proofs.Common.{◌≡◌, length}
use Rattle.streams.proofs.Sends.{Sent}
use Rattle.streams.proofs.output.write_out_logged.Given as goal

abbrev pub invariant-loop-rest : goal.invariant-loop-rest
invariant-loop-rest g l = record {
  sent : Sent (g.W.Write.contents l.initial.writer) (g.W.Write.contents l.writer) l.bytes l.rest;
  failure : l.log.failure ≡ l.initial.log.failure;
  took_none : l.log.took_none ≡ l.initial.log.took_none;
}

abbrev pub decreases-loop-rest : goal.decreases-loop-rest
decreases-loop-rest g l = length l.rest
