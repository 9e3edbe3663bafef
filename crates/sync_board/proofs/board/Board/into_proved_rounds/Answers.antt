use Rattle.std.proofs.Common.{subst}
use Rattle.sync_board.specs.Boards.{IsBoard}
use Rattle.sync_board.proofs.board.Board.into_proved_rounds.Goals as goal

pub returns-clause-decided : goal.returns-clause-decided
returns-clause-decided g c =
    let board : IsBoard {A = g.row.A.Denot} c.args.self = subst (IsBoard {A = g.row.A.Denot}) c.self.view_is c.self.invariant.0 in
    board.decided

pub returns-clause-proved : goal.returns-clause-proved
returns-clause-proved g c =
    let board : IsBoard {A = g.row.A.Denot} c.args.self = subst (IsBoard {A = g.row.A.Denot}) c.self.view_is c.self.invariant.0 in
    board.proved
