use Rattle.std.proofs.Common.{arith}
use Rattle.merged_refinement.proofs.LeastStarts.{element_in}
use Rattle.merged_refinement.proofs.starts.slid.Goals as goal

pub loop-from-init : goal.loop-from-init
loop-from-init g c =
    element_in c.args.loads.now c.args.element c.args.limit c.args.start c.requires.before

pub overflow_add-element : goal.overflow_add-element
overflow_add-element g c = omega (arith, c.requires.inside, c.requires.few)

pub overflow_add-from : goal.overflow_add-from
overflow_add-from g c =
    omega (arith, c.loop-from.invariant.inside, c.requires.inside, c.requires.few)
