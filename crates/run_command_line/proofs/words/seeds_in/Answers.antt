use Rattle.std.proofs.Common.{rules}
use Rattle.run_command_line.proofs.words.seeds_in.Goals as goal

pub returns-clause-seeds : goal.returns-clause-seeds
returns-clause-seeds c = search rules
