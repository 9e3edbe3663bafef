use Rattle.std.proofs.Common.{◌≡◌}
use Rattle.std.specs.Option.{option_copied}
use Rattle.sync_board.specs.Boards.{nearness_of}
use Rattle.sync_board.proofs.Rounds.{lent_proved}
use Rattle.sync_board.proofs.board.Board.nearness_for.Goals as goal

pub returns-clause-proved : goal.returns-clause-proved
returns-clause-proved g c =
    let found : option_copied c.nearness_for.result ≡ nearness_of c.args.self.now c.args.round = rw (← c.get.ensures.value, ← c.nearness.ensures.value) c.nearness_for.ensures in
    lent_proved c.args.self.now c.args.round c.nearness_for.result c.nearness.ensures.consistent found
