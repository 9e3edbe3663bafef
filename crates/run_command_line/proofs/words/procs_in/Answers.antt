use Rattle.std.proofs.Common.{rules}
use Rattle.run_command_line.proofs.words.procs_in.Goals as goal

pub returns-clause-procs : goal.returns-clause-procs
returns-clause-procs c = search rules
