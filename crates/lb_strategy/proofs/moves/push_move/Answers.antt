use Rattle.lb_strategy.proofs.moves.push_move.Goals as goal

pub returns-in_ok-push : goal.returns-in_ok-push
returns-in_ok-push g c = rw c.in-Some.is c.in_ok-push.ensures.items
