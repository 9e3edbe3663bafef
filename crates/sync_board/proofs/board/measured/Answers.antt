use Rattle.std.proofs.Common.{◌<◌, arith}
use Rattle.chare_index.specs.declared.limits.TheConstants.Limits.{ROUND}
use Rattle.sync_board.proofs.board.measured.Goals as goal

pub returns-clause-answer : goal.returns-clause-answer
returns-clause-answer g c =
    let before : c.args.database.now.round < ROUND = omega (arith, c.round.ensures.value, c.get-round.ensures.value, c.get-round.ensures.in_range, c.if-round.false) in
    (c.in_ok-snapshot.ensures.answer, before)
