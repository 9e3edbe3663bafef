use Rattle.std.proofs.Common.{rules}
use Rattle.sync_board.proofs.board.Board.finish.Goals as goal

pub returns-clause-ok : goal.returns-clause-ok
returns-clause-ok g c = search rules
