use Rattle.std.proofs.Common.{arith}
use Rattle.merged_chains.specs.Narrowing.{AreSpread}
use Rattle.merged_chains.proofs.NarrowedBounds.{spread_between}
use Rattle.merged_chains.proofs.narrowing.spread.Goals as goal

pub returns-clause-between : goal.returns-clause-between
returns-clause-between c =
    let same = c.loop-j.invariant.same_room in
    let filled : AreSpread c.args.bounds.low c.args.bounds.high c.loop-j.limits = λ k inside. rw same (c.loop-j.invariant.spread k (omega (arith, c.loop-j-test.false, same))) in
    spread_between c.args.bounds.low c.args.bounds.high c.loop-j.limits c.requires.ordered (omega (arith, c.requires.enough, same)) filled
