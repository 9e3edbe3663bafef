use Rattle.std.proofs.Common.{rules}
use Rattle.sync_board.proofs.Rounds.{found_in}
use Rattle.run_trace.proofs.loads.kept_in.Goals as goal

pub returns : goal.returns
returns g c = search (rules, found_in)
