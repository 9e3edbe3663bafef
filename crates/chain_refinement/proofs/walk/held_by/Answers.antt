use Rattle.std.proofs.Common.{arith}
use Rattle.std.proofs.lemmas.List.Sums.{sum_by-take-le}
use Rattle.chain_refinement.specs.Refinement.{held_bytes}
use Rattle.chain_refinement.proofs.HeldBytes.{held_small}
use Rattle.chain_refinement.proofs.walk.held_by.Goals as goal

pub returns-clause-small : goal.returns-clause-small
returns-clause-small c =
    let part = sum_by-take-le (λ size. held_bytes size c.args.pe) c.args.elements.now c.loop-element.element-index in
    omega (arith, part, c.loop-element.invariant, held_small c.args.elements.now c.args.pe c.requires.measured)
