use Rattle.std.proofs.Common.{rules}
use Rattle.lb_strategy.proofs.checking.check.Goals as goal

pub returns-clause-exact : goal.returns-clause-exact
returns-clause-exact g c = search rules depth 2

pub returns-clause-cheapest : goal.returns-clause-cheapest
returns-clause-cheapest g c = search rules depth 2

pub returns-clause-places : goal.returns-clause-places
returns-clause-places g c = search rules depth 2
