use Rattle.std.proofs.Common.{◌+◌, arith}
use Rattle.refinement_search.proofs.CostsBack.{cost_few}
use Rattle.refinement_search.proofs.cost.cost_before.Goals as goal

pub overflow_add-result : goal.overflow_add-result
overflow_add-result c =
    omega (arith, cost_few c.args.elements.now c.args.from c.args.to (c.args.place + 1) c.requires.valid, c.requires.there)
