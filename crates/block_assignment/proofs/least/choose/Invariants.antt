use Rattle.std.proofs.Common.{◌≡◌, ℕ, ◌<◌, ◌≤◌, length, slice_index}
use Rattle.block_assignment.specs.Least.{may_have, IsFound}
use Rattle.block_assignment.proofs.least.choose.Given as goal

abbrev pub invariant-loop-j : goal.invariant-loop-j
invariant-loop-j l =
    record {
      reached : IsFound (length l.takers) l.b l.left l.chosen;
      allowed : may_have l.takers l.b (slice_index l.names l.chosen) ≡ 1;
      least : (k : ℕ) → k < l.j → IsFound (length l.takers) l.b l.left k → may_have l.takers l.b (slice_index l.names k) ≡ 1 → slice_index l.names l.chosen ≤ slice_index l.names k;
    }
