use Rattle.std.proofs.Common.{rules}
use Rattle.lb_snapshot.proofs.loads.Loads.load.Goals as goal

pub returns : goal.returns
returns g c = search rules
