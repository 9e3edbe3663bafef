use Rattle.std.proofs.Common.{◌≡◌, ℕ, ◌<◌, slice_index}
use Rattle.lb_dump.proofs.Heads.{first_bytes}
use Rattle.lb_dump.proofs.head.judge_magic.Given as goal

abbrev pub invariant-loop-k : goal.invariant-loop-k
invariant-loop-k l = (j : ℕ) → j < l.k → slice_index l.bytes j ≡ slice_index first_bytes j
