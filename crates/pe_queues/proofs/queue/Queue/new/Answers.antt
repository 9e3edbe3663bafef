use Rattle.pe_queues.proofs.Steps.{begins}
use Rattle.pe_queues.proofs.queue.Queue.new.Goals as goal

pub ruled-requires-clause-rule : goal.ruled-requires-clause-rule
ruled-requires-clause-rule g c = begins
