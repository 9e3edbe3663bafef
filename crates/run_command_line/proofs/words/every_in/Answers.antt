use Rattle.std.proofs.Common.{rules}
use Rattle.run_command_line.proofs.words.every_in.Goals as goal

pub returns-clause-every : goal.returns-clause-every
returns-clause-every c = search rules
