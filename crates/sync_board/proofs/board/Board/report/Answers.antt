use Rattle.std.proofs.Common.{rules}
use Rattle.sync_board.proofs.board.Board.report.Goals as goal

pub returns-in_err-report-clause-err : goal.returns-in_err-report-clause-err
returns-in_err-report-clause-err g c = search rules
