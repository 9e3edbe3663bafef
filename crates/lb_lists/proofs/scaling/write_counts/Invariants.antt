use Rattle.std.proofs.Common.{◌≡◌, length, take}
use Rattle.lb_lists.specs.Scales.{counts}
use Rattle.lb_lists.proofs.scaling.write_counts.Given as goal

abbrev pub invariant-loop-i : goal.invariant-loop-i
invariant-loop-i l =
    record {
      counted : length l.scaled ≡ length l.initial.scaled;
      written : take l.i l.scaled ≡ counts l.power (take l.i l.loads);
    }
