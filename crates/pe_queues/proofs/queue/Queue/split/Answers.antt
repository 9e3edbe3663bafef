use Rattle.std.proofs.Common.{◌<◌, ap}
use Rattle.crossbeam_queue.specs.Passes.{view}
use Rattle.pe_queues.proofs.Steps.{splits}
use Rattle.pe_queues.proofs.queue.Queue.split.Goals as goal

pub another-pass-requires-clause-rule : goal.another-pass-requires-clause-rule
another-pass-requires-clause-rule g c =
    let seated : 1 < (view c.mine.inside.pass).seats = rw (ap (λ t. t.traffic.seats) c.mine.view_is) c.requires.seated in
    splits _ _ seated
