use Rattle.std.proofs.Common.{◌≡◌, ap}
use Rattle.schedule_run.proofs.Lefts.{are_tallies}
use Rattle.schedule_run.proofs.driving.drive_seed.Goals as goal

pub told-requires : goal.told-requires
told-requires g c =
    let chares : c.workload.inside.chares ≡ c.args.workload.now.chares = ap (λ w. w.chares) c.workload.view_is in
    record { tallies = are_tallies _ _ (λ t fit. fit.0.1.1.0) c.args.workload.now c.workload.inside.chares c.args.strategy c.in-Ok.explored chares c.in-Ok.ensures.left.0 }

pub returns-in-Ok : goal.returns-in-Ok
returns-in-Ok g c =
    let chares : c.workload.inside.chares ≡ c.args.workload.now.chares = ap (λ w. w.chares) c.workload.view_is in
    record { ran = rw c.told.ensures.kept (c.in-Ok.ensures.left, rw chares at c.told.ensures.told); drawn = rw c.told.ensures.kept c.in-Ok.ensures.drawn }
