use Rattle.std.proofs.Common.{rules}
use Rattle.lb_replay.proofs.words.number_in.Goals as goal

pub returns-clause-procs : goal.returns-clause-procs
returns-clause-procs c = search rules
