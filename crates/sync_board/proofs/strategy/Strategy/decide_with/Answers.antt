use Rattle.std.proofs.Common.{rules}
use Rattle.sync_board.proofs.Placed.{all_placed, all_refined}
use Rattle.sync_board.proofs.strategy.Strategy.decide_with.Goals as goal

pub returns-in-Refine-clause-by_strategy : goal.returns-in-Refine-clause-by_strategy
returns-in-Refine-clause-by_strategy g c =
    let s = c.args.snapshot.now in
    let refined = all_refined s.loads s.sizes c.args.pes c.in-Refine.tolerance c.refine_with.result c.refine_with.ensures.decided in
    search rules

pub returns-in-Refine-clause-placed : goal.returns-in-Refine-clause-placed
returns-in-Refine-clause-placed g c =
    let s = c.args.snapshot.now in
    all_placed s.loads s.sizes c.args.pes c.in-Refine.tolerance c.refine_with.result c.refine_with.ensures.decided
