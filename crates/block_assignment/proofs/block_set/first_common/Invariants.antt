use Rattle.std.proofs.Common.{◌≡◌, ℕ, ◌<◌, slice_index, bit_and}
use Rattle.block_assignment.proofs.block_set.first_common.Given as goal

abbrev pub invariant-loop-word : goal.invariant-loop-word
invariant-loop-word l = (w : ℕ) → w < l.word → bit_and (slice_index l.one w) (slice_index l.other w) ≡ 0
