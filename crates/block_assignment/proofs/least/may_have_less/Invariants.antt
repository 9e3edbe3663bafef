use Rattle.std.proofs.Common.{◌≡◌, ℕ, ◌<◌, ◌≤◌, slice_index}
use Rattle.block_assignment.specs.Least.{may_have}
use Rattle.block_assignment.proofs.least.may_have_less.Given as goal

abbrev pub invariant-loop-j : goal.invariant-loop-j
invariant-loop-j l = (k : ℕ) → l.b < k → k < l.j → may_have l.takers l.b (slice_index l.names k) ≡ 1 → slice_index l.names l.b ≤ slice_index l.names k
