use Rattle.std.proofs.Common.{◌<◌, arith, subst, sym}
use Rattle.lb_database.specs.Measuring.{elements}
use Rattle.sync_board.proofs.Places.{decided_before, has_place, place_below}
use Rattle.sync_board.proofs.board.Board.place_for.Goals as goal

pub place_of-requires : goal.place_of-requires
place_of-requires g c =
    let known : c.args.i < elements c.args.self.now.database = omega arith in
    record { placed = has_place c.args.self.now c.args.round c.args.i c.in_ok-decision.decision.now c.in_ok-decision.ensures.decided known }

pub returns-clause-below : goal.returns-clause-below
returns-clause-below g c =
    let known : c.args.i < elements c.args.self.now.database = omega arith in
    let below = place_below c.args.self.now c.args.round c.args.i c.in_ok-decision.decision.now c.in_ok-decision.ensures.decided known in
    subst (λ pe. pe < c.args.self.now.pes) (sym c.place_of.ensures.value) below

pub returns-clause-before_last_round : goal.returns-clause-before_last_round
returns-clause-before_last_round g c =
    decided_before c.args.self.now c.args.round c.in_ok-decision.decision.now c.in_ok-decision.ensures.decided c.rounds-rounds.ensures.consistent c.len.ensures.within_limits
