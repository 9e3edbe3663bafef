use Rattle.std.proofs.Common.{◌≡◌, drop}
use Rattle.pe_state.specs.InOrder.{element_on}
use Rattle.pe_state.proofs.elements.take_from.Given as goal

abbrev pub invariant-loop-place : goal.invariant-loop-place
invariant-loop-place g l = record {
  same : l.ends.items ≡ l.fn.ends.items;
  sought : element_on l.index (drop l.place l.ends.items) ≡ element_on l.fn.index l.fn.ends.items;
}
