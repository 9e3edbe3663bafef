use Rattle.std.proofs.Common.{◌≡◌, ℕ, ◌<◌, get_or}
use Rattle.any_order.specs.Internal.{IsWalk}
use Rattle.any_order.proofs.walk.first_steep_end.Given as goal

abbrev pub invariant-loop-bytes : goal.invariant-loop-bytes
invariant-loop-bytes l = (k : ℕ) → k < l.bytes-index → get_or l.kept k 0 ≡ 0

abbrev pub invariant-loop-x : goal.invariant-loop-x
invariant-loop-x l = IsWalk l.claim l.y l.x l.own l.kept l.most l.bytes l.weight l.high
