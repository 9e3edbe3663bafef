use Rattle.std.proofs.Common.{◌≡◌, ◌∙◌, Some, refl, rules}
use Rattle.pe_worker.specs.declared.fault.Fault.TheVariants.{Stopped}
use Rattle.carried_runs.proofs.GoingOn.{goes_on_after, goes_on_here, one_more_part, whole_yet}
use Rattle.carried_runs.proofs.parts.go_on.Goals as goal

pub loop-init : goal.loop-init
loop-init g c = record {
  outcome = c.requires.earlier;
  idle = c.requires.earlier_idle;
  stopped = c.requires.earlier_stopped;
  parts = whole_yet c.args.outcome;
  goes_on = goes_on_here c.args.outcome;
  homes = refl;
}

pub loop-preserved : goal.loop-preserved
loop-preserved g c =
    let i = c.loop.invariant in
    let more = c.in_ok-outcome.ensures in
    let paused : c.loop.outcome.fault ≡ Some Stopped = search rules in
    record {
      outcome = more.outcome;
      idle = more.idle;
      stopped = more.stopped;
      parts = one_more_part c.args.outcome c.loop.outcome c.in_ok-outcome.outcome i.parts paused more.goes_on;
      goes_on = goes_on_after c.args.outcome c.loop.outcome c.in_ok-outcome.outcome i.goes_on more.goes_on;
      homes = more.homes ∙ i.homes;
    }
