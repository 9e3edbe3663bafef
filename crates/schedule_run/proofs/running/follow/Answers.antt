use Rattle.std.proofs.Common.{◌≡◌, ◌∙◌, ap}
use Rattle.schedules.specs.declared.schedule.Schedule.{Schedule}
use Rattle.schedule_run.proofs.Lefts.{may_explore, on_one, refuses_run}
use Rattle.schedule_run.proofs.running.follow.Goals as goal

pub returns-in-Ok : goal.returns-in-Ok
returns-in-Ok g c =
    let pes : c.workload.inside.pes ≡ c.args.workload.now.pes = ap (λ w. w.pes) c.workload.view_is in
    let is = c.schedule_of-schedule.ensures.value in
    record {
      left = (
        on_one _ _ _ _ _ _ _ _ c.in-Ok.explored c.in_ok-tallies.ensures.value (ap (λ (s : Schedule). s.pes) is ∙ pes)
            (ap (λ (s : Schedule). s.strategy) is) c.in-Ok.ensures.explored,
        c.in-Ok.ensures.ends,
      );
      follows = c.in-Ok.ensures.follows;
      refused = tt;
    }

pub returns-in-Err : goal.returns-in-Err
returns-in-Err g c =
    let pes : c.workload.inside.pes ≡ c.args.workload.now.pes = ap (λ w. w.pes) c.workload.view_is in
    let is = c.schedule_of-schedule.ensures.value in
    let tallies = c.in_ok-tallies.ensures.value in
    let same = ap (λ (s : Schedule). s.pes) is ∙ pes in
    let may = may_explore c.args.workload.now c.schedule_of-schedule.result _ c.requires.within tallies same in
    record {
      left = tt;
      follows = tt;
      refused = refuses_run g.row.A.Denot _ c.args.workload.now _ c.schedule_of-schedule.result
          c.args.strategy c.args.events.now c.in-Err.error may tallies same (ap (λ (s : Schedule). s.strategy) is) c.in-Err.ensures.answer;
    }
