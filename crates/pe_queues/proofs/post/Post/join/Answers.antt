use Rattle.std.proofs.Common.{rules}
use Rattle.pe_queues.proofs.post.Post.join.Goals as goal

pub returns : goal.returns
returns g c = search rules
