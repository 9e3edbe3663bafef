use Rattle.chain_refinement.proofs.Windows.{empty_window}
use Rattle.chain_refinement.proofs.check.last_start.Goals as goal

pub loop-element-init : goal.loop-element-init
loop-element-init c = empty_window c.args.loads.now c.args.limit
