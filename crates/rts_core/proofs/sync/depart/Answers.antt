use Rattle.std.proofs.Common.{rules}
use Rattle.rts_core.proofs.sync.depart.Goals as goal

pub returns-clause-ok : goal.returns-clause-ok
returns-clause-ok g c = search rules
