use Rattle.std.proofs.Common.{rules}
use Rattle.chares.proofs.sends.Sends.put.Goals as goal

pub returns-clause-ok : goal.returns-clause-ok
returns-clause-ok g c = search rules
