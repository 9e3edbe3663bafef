use Rattle.std.proofs.Common.{◌≡◌, ◌-◌, length, take}
use Rattle.std.specs.List.{between, zip}
use Rattle.lb_lists.proofs.snapshot.write_pairs.Given as goal

abbrev pub invariant-loop-i : goal.invariant-loop-i
invariant-loop-i l =
    record {
      counted : length l.block ≡ length l.initial.block;
      written : take (l.i - l.first) l.block ≡ between l.first l.i (zip l.bytes l.places);
    }
