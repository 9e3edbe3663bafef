use Rattle.std.proofs.Common.{◌≡◌, [], map, replicate}
use Rattle.placed_runs.proofs.opening.no_parcels.Given as goal

abbrev pub invariant-loop-q : goal.invariant-loop-q
invariant-loop-q g l = map (λ q. q.items) l.left.items ≡ replicate l._q []
