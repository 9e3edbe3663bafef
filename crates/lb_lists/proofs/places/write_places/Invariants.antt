use Rattle.std.proofs.Common.{◌≡◌, ℕ, ◌<◌, length, slice_index}
use Rattle.lb_strategy.specs.Moves.{planned_pe}
use Rattle.lb_lists.proofs.places.write_places.Given as goal

abbrev pub invariant-loop-b : goal.invariant-loop-b
invariant-loop-b l =
    record {
      counted : length l.new_places ≡ length l.initial.new_places;
      placed : (k : ℕ) → k < slice_index l.cuts l.b → slice_index l.new_places k ≡ planned_pe l.cuts l.names k;
    }
