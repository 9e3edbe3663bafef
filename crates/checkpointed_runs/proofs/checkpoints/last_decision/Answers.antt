use Rattle.std.proofs.Common.{◌≡◌, ◌∙◌, ap, arith, length}
use Rattle.sync_board.specs.Boards.{decision_of}
use Rattle.checkpointed_runs.proofs.Deciding.{all_placed, rounds_few, some_made, value_made}
use Rattle.checkpointed_runs.proofs.checkpoints.last_decision.Goals as goal

pub overflow_cast-count : goal.overflow_cast-count
overflow_cast-count g c =
    let few = rounds_few c.args.board.now c.rounds-rounds.ensures.consistent c.len-measured.ensures.within_limits in
    omega (arith, few, ap length c.rounds-rounds.ensures.value)

pub unwrap-round-requires : goal.unwrap-round-requires
unwrap-round-requires g c =
    let few = rounds_few c.args.board.now c.rounds-rounds.ensures.consistent c.len-measured.ensures.within_limits in
    some_made c.new.result _ _ c.new.ensures.made (omega (arith, few, ap length c.rounds-rounds.ensures.value))

pub returns-clause-value : goal.returns-clause-value
returns-clause-value g c =
    let count = value_made c.new.result _ _ _ c.new.ensures.made c.unwrap-round.ensures in
    let round : c.unwrap-round.result ≡ length c.args.board.now.rounds = count ∙ ap length c.rounds-rounds.ensures.value in
    c.decision_for.ensures.value ∙ ap (decision_of c.args.board.now) round

pub returns-clause-placed : goal.returns-clause-placed
returns-clause-placed g c = all_placed c.args.board.now c.unwrap-round.result c.decision_for.result c.decision_for.ensures.decided
