use Rattle.row_fixtures.proofs.SamePairs.{lists}
use Rattle.row_fixtures.proofs.worked.same_pairs.Goals as goal

pub returns : goal.returns
returns c = lists c.args.some.now c.args.others.now c.eq.result c.eq.ensures
