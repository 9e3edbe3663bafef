use Rattle.speed_namings.specs.Timely.{AllLow}
use Rattle.speed_namings.proofs.prices.first_high.Given as goal

abbrev pub invariant-loop-b : goal.invariant-loop-b
invariant-loop-b g l = AllLow l.costs l.loads l.pes l.time l.u l.v l.b
