use Rattle.std.proofs.Common.{◌≡◌, ap, Some}
use Rattle.std.specs.Option.{option_map}
use Rattle.sync_board.specs.Boards.{kept_of}
use Rattle.sync_board.proofs.Rounds.{kept_in}
use Rattle.sync_board.proofs.board.Board.decision_for.Goals as goal

pub returns-clause-value : goal.returns-clause-value
returns-clause-value g c =
    let found : Some c.in_ok-decision.field-0.now ≡ kept_of c.args.self.now.rounds c.args.round = rw (← c.get.ensures.value, ← c.rounds.ensures.value) c.in_ok-decision.ensures in
    ap (option_map (λ kept. kept.1)) found

pub returns-clause-decided : goal.returns-clause-decided
returns-clause-decided g c =
    let found : Some c.in_ok-decision.field-0.now ≡ kept_of c.args.self.now.rounds c.args.round = rw (← c.get.ensures.value, ← c.rounds.ensures.value) c.in_ok-decision.ensures in
    kept_in c.args.self.now c.args.round c.in_ok-decision.field-0.now c.rounds.ensures.consistent found
