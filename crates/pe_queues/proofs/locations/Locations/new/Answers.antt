use Rattle.std.proofs.Common.{rules}
use Rattle.pe_queues.proofs.locations.Locations.new.Goals as goal

pub returns-clause-elements : goal.returns-clause-elements
returns-clause-elements g c = search rules
