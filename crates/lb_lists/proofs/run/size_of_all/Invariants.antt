use Rattle.std.proofs.Common.{◌≡◌, ◌≤◌, ◌*◌, ◌^◌, take, sum}
use Rattle.lb_lists.proofs.run.size_of_all.Given as goal

abbrev pub invariant-loop-size : goal.invariant-loop-size
invariant-loop-size l = (l.all ≡ sum (take l.size-index l.bytes)) × (l.all ≤ l.size-index * 2 ^ 32)
