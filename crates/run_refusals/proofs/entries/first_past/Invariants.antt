use Rattle.std.proofs.Common.{◌≡◌, ◌+◌, sum, take}
use Rattle.run_refusals.proofs.entries.first_past.Given as goal

abbrev pub invariant-loop-i : goal.invariant-loop-i
invariant-loop-i l = l.left + sum (take l.i l.sizes) ≡ l.limit
