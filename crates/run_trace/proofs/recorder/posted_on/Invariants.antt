use Rattle.std.proofs.Common.{◌≡◌, map, take}
use Rattle.run_trace.proofs.recorder.posted_on.Given as goal

abbrev pub invariant-loop-end : goal.invariant-loop-end
invariant-loop-end g l = l.posted.items ≡ map (λ pe. pe.count) (take l.end-index l.ends)
