use Rattle.std.proofs.Common.{rules}
use Rattle.lb_snapshot.proofs.loads.Loads.new.Goals as goal

pub returns-else-len : goal.returns-else-len
returns-else-len g c = search rules
