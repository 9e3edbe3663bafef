use Rattle.std.proofs.Common.{rules}
use Rattle.sync_board.proofs.Rounds.{found_in}
use Rattle.sync_board.proofs.board.kept_for.Goals as goal

pub returns : goal.returns
returns g c = search (rules, found_in)
