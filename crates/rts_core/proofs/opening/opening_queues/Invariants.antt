use Rattle.std.proofs.Common.{◌≡◌, [], replicate}
use Rattle.rts_core.proofs.opening.opening_queues.Given as goal

abbrev pub invariant-loop-q : goal.invariant-loop-q
invariant-loop-q g l = l.made.items ≡ replicate l._q []
