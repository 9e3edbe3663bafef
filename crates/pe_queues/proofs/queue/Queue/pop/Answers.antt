use Rattle.std.proofs.Common.{◌<◌, ap}
use Rattle.crossbeam_queue.specs.Passes.{view}
use Rattle.pe_queues.proofs.Steps.{pops, looks}
use Rattle.pe_queues.proofs.queue.Queue.pop.Goals as goal

pub pop_as-requires-clause-rule : goal.pop_as-requires-clause-rule
pop_as-requires-clause-rule g c =
    let seated : 0 < (view c.mine.inside.pass).seats = rw (ap (λ t. t.traffic.seats) c.mine.view_is) c.requires.seated in
    (pops _ _ seated, looks _ _)
