use Rattle.std.proofs.Common.{◌≡◌, map}
use Rattle.std.specs.Map.{values_of}
use Rattle.run_account.specs.Noting.{with_noted}
use Rattle.run_text.specs.Sums.{standing_sum}
use Rattle.run_text.proofs.sums.note_room.Given as goal

abbrev pub invariant-loop-element : goal.invariant-loop-element
invariant-loop-element g l = record {
  can : (goal.iterator-loop-element g).can_next l.element-iterator;
  ends : (goal.iterator-loop-element g).is_finite l.element-iterator;
  noted : with_noted l.sums (map standing_sum (values_of l.element-iterator)) ≡ with_noted l.initial.sums (map standing_sum (values_of l.end.room));
}
