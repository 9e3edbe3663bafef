use Rattle.std.proofs.Common.{◌≡◌, ◌≤◌, ◌*◌, ◌^◌, take, sum}
use Rattle.lb_certificates.proofs.sums.small_total.Given as goal

abbrev pub invariant-loop-number : goal.invariant-loop-number
invariant-loop-number l = (l.total ≡ sum (take l.number-index l.numbers)) × (l.total ≤ l.number-index * 2 ^ 64)
