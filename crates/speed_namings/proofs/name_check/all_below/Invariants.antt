use Rattle.std.proofs.Common.{ℕ, ◌<◌, slice_index}
use Rattle.speed_namings.proofs.name_check.all_below.Given as goal

abbrev pub invariant-loop-name : goal.invariant-loop-name
invariant-loop-name l = (b : ℕ) → b < l.name-index → slice_index l.names b < l.blocks
