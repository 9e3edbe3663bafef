use Rattle.speed_certificates.specs.Certificate.{NoneLate}
use Rattle.speed_certificates.proofs.speed_check.check_blocks.Given as goal

abbrev pub invariant-loop-b : goal.invariant-loop-b
invariant-loop-b g l = NoneLate l.loads l.pes l.division.time l.division.cuts l.b
