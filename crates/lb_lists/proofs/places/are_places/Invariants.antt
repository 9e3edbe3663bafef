use Rattle.std.proofs.Common.{◌≡◌, ℕ, ◌<◌, slice_index}
use Rattle.lb_strategy.specs.Moves.{planned_pe}
use Rattle.lb_lists.proofs.places.are_places.Given as goal

abbrev pub invariant-loop-b : goal.invariant-loop-b
invariant-loop-b l = (k : ℕ) → k < slice_index l.cuts l.b → slice_index l.new_places k ≡ planned_pe l.cuts l.names k
