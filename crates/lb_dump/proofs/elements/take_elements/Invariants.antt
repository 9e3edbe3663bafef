use Rattle.std.proofs.Common.{◌≡◌, ◌++◌, ◌+◌, ◌-◌, ◌*◌, ◌≤◌, length, vec_len, vec_capacity}
use Rattle.lb_dump.specs.Elements.{AreOf, elements_of}
use Rattle.lb_dump.proofs.elements.take_elements.Given as goal

abbrev pub invariant-loop-format : goal.invariant-loop-format
invariant-loop-format g l = record {
  joined : elements_of l.head l.loads.items l.sizes.items ++ l.rest ≡ elements_of l.head l.fn.loads.items l.fn.sizes.items ++ l.bytes;
  kept : AreOf l.head l.loads.items l.sizes.items;
  spent : l.len * length l.loads.items + length l.rest ≡ l.len * length l.fn.loads.items + length l.bytes;
  few : length l.loads.items ≤ l.end;
  loads : vec_len l.loads ≡ length l.loads.items;
  sizes : vec_len l.sizes ≡ length l.sizes.items;
  load_room : l.end ≤ vec_capacity l.loads;
  size_room : l.end ≤ vec_capacity l.sizes;
}

abbrev pub decreases-loop-format : goal.decreases-loop-format
decreases-loop-format g l = l.end - length l.loads.items
