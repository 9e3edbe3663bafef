use Rattle.std.proofs.Common.{◌≡◌, ◌∙◌, ℕ, ap}
use Rattle.workload_run.specs.Tallies.{tallies_of}
use Rattle.schedule_run.specs.OneThread.{unlimited}
use Rattle.schedule_run.proofs.Lefts.{seeds_on_one}
use Rattle.schedule_run.proofs.seeds.drive_seeds.Goals as goal

pub returns : goal.returns
returns g c =
    let pes : c.workload.inside.pes ≡ c.args.workload.now.pes = ap (λ w. w.pes) c.workload.view_is in
    let chares = ap (λ w. tallies_of w.now) c.new-cast.ensures.workload in
    record {
      tried = seeds_on_one _ _ _ _ _ _ _ _ _ _ _ chares (c.schedule_of-schedule.ensures.value ∙ ap (λ (p : ℕ). unlimited p c.args.strategy) pes) c.tell_seeds.ensures.tried;
    }
