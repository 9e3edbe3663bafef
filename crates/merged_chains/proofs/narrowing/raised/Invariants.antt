use Rattle.merged_chains.specs.Narrowing.{IsRaised}
use Rattle.merged_chains.proofs.narrowing.raised.Given as goal

abbrev pub invariant-loop-i : goal.invariant-loop-i
invariant-loop-i l = IsRaised l.pes l.i l.limits l.closed l.low l.raised
