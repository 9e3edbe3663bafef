use Rattle.std.proofs.Common.{◌≢◌, ℕ, ◌<◌, slice_index}
use Rattle.speed_namings.proofs.name_check.all_apart.Given as goal

abbrev pub invariant-loop-b : goal.invariant-loop-b
invariant-loop-b l =
    (i j : ℕ) → i < j → j < l.b → slice_index l.names i ≢ slice_index l.names j
