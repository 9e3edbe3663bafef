use Rattle.std.proofs.Common.{rules}
use Rattle.round_marks.proofs.marks.stands_as_marked.Goals as goal

pub returns-in-Resumed : goal.returns-in-Resumed
returns-in-Resumed c = search rules
