use Rattle.std.proofs.Common.{length}
use Rattle.workload.specs.Machine.{IsHeld, Reaches, state_of}
use Rattle.workload.proofs.judge.Judge.take_numbers.Given as goal

abbrev pub invariant-loop-self : goal.invariant-loop-self
invariant-loop-self g l = Reaches l.initial.rest (state_of l.initial.self) l.rest (state_of l.self) × IsHeld l.self

abbrev pub decreases-loop-self : goal.decreases-loop-self
decreases-loop-self g l = length l.rest
