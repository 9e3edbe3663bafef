use Rattle.std.proofs.Common.{rules}
use Rattle.pe_queues.proofs.post.Post.settle.Goals as goal

pub returns-clause-left : goal.returns-clause-left
returns-clause-left g c = search rules
