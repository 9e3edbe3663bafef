use Rattle.std.proofs.Common.{◌≡◌, take, vec_capacity}
use Rattle.barrier.proofs.round_places.copy_list.Given as goal

abbrev pub invariant-loop-item : goal.invariant-loop-item
invariant-loop-item g l = record {
  items : l.list.items ≡ take l.item-index l.from;
  capacity : vec_capacity l.list ≡ vec_capacity l.fn.list;
}
