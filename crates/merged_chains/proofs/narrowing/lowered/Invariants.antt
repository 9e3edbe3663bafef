use Rattle.merged_chains.specs.Narrowing.{IsLowered}
use Rattle.merged_chains.proofs.narrowing.lowered.Given as goal

abbrev pub invariant-loop-i : goal.invariant-loop-i
invariant-loop-i l = IsLowered l.pes l.i l.limits l.closed l.high l.lowered
