use Rattle.std.proofs.Common.{ℕ, ◌<◌, length, slice_index}
use Rattle.block_assignment.proofs.auction.begin_round.Given as goal

abbrev pub invariant-loop-i : goal.invariant-loop-i
invariant-loop-i l = (j : ℕ) → j < l.i → slice_index l.waiting j < length l.initial.waiting
