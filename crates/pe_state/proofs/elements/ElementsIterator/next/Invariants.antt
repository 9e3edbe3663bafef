use Rattle.std.proofs.Common.{◌≡◌, ◌≤◌, ◌-◌}
use Rattle.std.specs.List.{range_with_len}
use Rattle.chare_index.specs.declared.limits.TheConstants.Limits.{ELEMENTS}
use Rattle.pe_state.specs.InOrder.{elements_at}
use Rattle.pe_state.proofs.elements.ElementsIterator.next.Given as goal

abbrev pub invariant-loop-self : goal.invariant-loop-self
invariant-loop-self g l = record {
  few : l.self-inside.n ≤ ELEMENTS;
  left : elements_at (range_with_len l.self-inside.next (l.self-inside.n - l.self-inside.next)) l.self-inside.ends.items ≡ l.fn.self;
}

abbrev pub decreases-loop-self : goal.decreases-loop-self
decreases-loop-self g l = l.self-inside.n - l.self-inside.next
