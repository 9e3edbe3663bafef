use Rattle.chain_refinement.specs.Walks.{IsWindow}
use Rattle.chain_refinement.proofs.check.last_start.Given as goal

abbrev pub invariant-loop-element : goal.invariant-loop-element
invariant-loop-element l = IsWindow l.loads l.element l.limit l.window.start l.window.weight
