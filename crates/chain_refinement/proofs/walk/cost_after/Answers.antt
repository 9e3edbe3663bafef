use Rattle.std.proofs.Common.{arith}
use Rattle.chain_refinement.proofs.CutCosts.{held_whole}
use Rattle.chain_refinement.proofs.HeldBytes.{held_few}
use Rattle.chain_refinement.proofs.walk.cost_after.Goals as goal

pub overflow_add-result : goal.overflow_add-result
overflow_add-result c =
    let sizes = c.args.elements.now in
    omega (
      arith,
      held_few sizes c.args.from c.requires.measured,
      held_few sizes c.args.to c.requires.measured,
      held_whole sizes c.args.from c.args.element,
      held_whole sizes c.args.to c.args.element,
    )
