use Rattle.std.proofs.Common.{rules}
use Rattle.pe_queues.proofs.locations.Locations.look.Goals as goal

pub returns : goal.returns
returns g c = search rules
