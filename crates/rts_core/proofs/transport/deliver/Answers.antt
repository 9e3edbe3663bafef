use Rattle.std.proofs.Common.{rules}
use Rattle.rts_core.proofs.transport.deliver.Goals as goal

pub returns : goal.returns
returns g c = search rules
