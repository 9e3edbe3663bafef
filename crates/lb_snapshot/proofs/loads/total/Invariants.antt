use Rattle.std.proofs.Common.{◌≡◌, take, sum}
use Rattle.lb_snapshot.proofs.loads.total.Given as goal

abbrev pub invariant-loop-units : goal.invariant-loop-units
invariant-loop-units l = l.total ≡ sum (take l.units-index l.units)
