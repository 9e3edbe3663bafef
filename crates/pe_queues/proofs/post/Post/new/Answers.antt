use Rattle.std.proofs.Common.{rules}
use Rattle.pe_queues.proofs.post.Post.new.Goals as goal

pub returns-clause-count : goal.returns-clause-count
returns-clause-count g c = search rules
