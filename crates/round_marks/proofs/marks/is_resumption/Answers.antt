use Rattle.std.proofs.Common.{rules}
use Rattle.round_marks.proofs.marks.is_resumption.Goals as goal

pub returns : goal.returns
returns g c = search rules
