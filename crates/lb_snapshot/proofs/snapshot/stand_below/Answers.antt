use Rattle.std.proofs.Common.{rules}
use Rattle.lb_snapshot.proofs.snapshot.stand_below.Goals as goal

pub returns : goal.returns
returns c = search rules
