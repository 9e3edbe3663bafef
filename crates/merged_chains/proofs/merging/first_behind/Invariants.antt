use Rattle.std.proofs.Common.{ℕ, ◌<◌, ◌≤◌, slice_index}
use Rattle.merged_chains.proofs.merging.first_behind.Given as goal

abbrev pub invariant-loop-window : goal.invariant-loop-window
invariant-loop-window l = (k : ℕ) → k < l.window → slice_index l.upper k ≤ l.element
