use Rattle.std.proofs.Common.{◌<◌, ap}
use Rattle.crossbeam_queue.specs.Passes.{view}
use Rattle.pe_queues.proofs.Steps.{joins, looks, shares}
use Rattle.pe_queues.proofs.queue.Queue.join.Goals as goal

pub absorb-requires-clause-rule : goal.absorb-requires-clause-rule
absorb-requires-clause-rule g c =
    let seated : 0 < (view c.mine.inside.pass).seats = rw (ap (λ t. t.traffic.seats) c.mine.view_is) c.requires.seated in
    joins _ _ _ _ seated

pub learn_as-requires-clause-rule : goal.learn_as-requires-clause-rule
learn_as-requires-clause-rule g c = looks _ _

pub returns-clause-share : goal.returns-clause-share
returns-clause-share g c = let seen = c.learn_as.ensures.rule in rw c.learn_as.ensures.queue.1 (shares _ seen.0 seen.1)
