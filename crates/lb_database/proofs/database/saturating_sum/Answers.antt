use Rattle.std.proofs.Common.{rules}
use Rattle.lb_database.proofs.database.saturating_sum.Goals as goal

pub returns : goal.returns
returns c = search rules
