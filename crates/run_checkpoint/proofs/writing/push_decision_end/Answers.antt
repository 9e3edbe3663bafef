use Rattle.std.proofs.Common.{append_assoc}
use Rattle.run_checkpoint.proofs.writing.push_decision_end.Goals as goal

pub returns : goal.returns
returns g c = simp append_assoc c.writeln.ensures.bytes
