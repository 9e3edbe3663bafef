use Rattle.speed_partition.specs.Chosen.{NoneIdle}
use Rattle.speed_partition.proofs.division.first_idle.Given as goal

abbrev pub invariant-loop-pe : goal.invariant-loop-pe
invariant-loop-pe l = NoneIdle l.pes l.time l.pe
