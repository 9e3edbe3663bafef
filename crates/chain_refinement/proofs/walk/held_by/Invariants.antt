use Rattle.std.proofs.Common.{◌≡◌}
use Rattle.chain_refinement.specs.Refinement.{held_before}
use Rattle.chain_refinement.proofs.walk.held_by.Given as goal

abbrev pub invariant-loop-element : goal.invariant-loop-element
invariant-loop-element l = l.bytes ≡ held_before l.elements l.pe l.element-index
