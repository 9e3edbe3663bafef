use Rattle.std.proofs.Common.{length}
use Rattle.workload.specs.Machine.{IsHeld, Reaches, state_of}
use Rattle.workload.proofs.judge.Judge.feed.Given as goal

abbrev pub invariant-loop-byte : goal.invariant-loop-byte
invariant-loop-byte g l = Reaches l.bytes (state_of l.initial.self) l.rest (state_of l.self) × IsHeld l.self

abbrev pub decreases-loop-byte : goal.decreases-loop-byte
decreases-loop-byte g l = length l.rest
