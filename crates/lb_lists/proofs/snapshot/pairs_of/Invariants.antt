use Rattle.std.proofs.Common.{◌≡◌, ◌≤◌, ◌-◌, length, take}
use Rattle.std.specs.List.{zip}
use Rattle.lb_lists.proofs.snapshot.pairs_of.Given as goal

abbrev pub invariant-loop-first : goal.invariant-loop-first
invariant-loop-first g l =
    record {
      inside : l.first ≤ length l.bytes;
      pushed : l.pairs.items ≡ take l.first (zip l.bytes l.places);
    }

abbrev pub decreases-loop-first : goal.decreases-loop-first
decreases-loop-first g l = length l.bytes - l.first
