use Rattle.std.proofs.Common.{rules}
use Rattle.run_command_line.proofs.words.seed_in.Goals as goal

pub returns : goal.returns
returns c = record { seed = search rules }
