use Rattle.speed_certificates.specs.Certificate.{NoneEarly}
use Rattle.speed_certificates.proofs.speed_check.first_early.Given as goal

abbrev pub invariant-loop-i : goal.invariant-loop-i
invariant-loop-i l = NoneEarly l.loads l.pes l.time l.stops l.i
