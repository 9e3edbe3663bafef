use Rattle.std.proofs.Common.{◌≡◌, ◌∙◌, ap}
use Rattle.schedules.specs.declared.schedule.Schedule.{Schedule}
use Rattle.schedule_run.proofs.Lefts.{drawn_on_one, ends_so, on_one}
use Rattle.schedule_run.proofs.running.search.Goals as goal

pub returns-in-Ok : goal.returns-in-Ok
returns-in-Ok g c =
    let x = c.in-Ok.explored in
    let pes : c.workload.inside.pes ≡ c.args.workload.now.pes = ap (λ w. w.pes) c.workload.view_is in
    let is = c.schedule_of-schedule.ensures.value in
    let on = ap (λ (s : Schedule). s.pes) is ∙ pes in
    let by = ap (λ (s : Schedule). s.strategy) is in
    let steps = ap (λ (s : Schedule). s.steps) is in
    record {
      left = (
        on_one _ _ _ _ _ _ _ _ x c.in_ok-tallies.ensures.value on by c.in-Ok.ensures.explored,
        ends_so _ _ _ x steps c.in-Ok.ensures.ends,
      );
      drawn = drawn_on_one _ _ _ _ _ _ _ _ _ _ x (ap (λ (s : Schedule). s.bias) is) c.in_ok-tallies.ensures.value on by c.in-Ok.ensures.drawn;
    }
