use Rattle.std.proofs.Common.{rules}
use Rattle.rts_core.proofs.queue.Queue.push_from.Goals as goal

pub returns-clause-put : goal.returns-clause-put
returns-clause-put g c = search rules
