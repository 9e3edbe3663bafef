use Rattle.std.proofs.Common.{◌<◌, ap}
use Rattle.crossbeam_queue.specs.Passes.{view}
use Rattle.pe_queues.proofs.Steps.{pushes, looks}
use Rattle.pe_queues.proofs.queue.Queue.push.Goals as goal

pub push_as-requires-clause-rule : goal.push_as-requires-clause-rule
push_as-requires-clause-rule g c =
    let seated : 0 < (view c.mine.inside.pass).seats = rw (ap (λ t. t.traffic.seats) c.mine.view_is) c.requires.seated in
    (pushes _ _ _ _ seated, looks _ _)
