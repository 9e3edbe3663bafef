use Rattle.std.proofs.Common.{◌++◌, ap, arith, ◌∙◌}
use Rattle.std.proofs.lemmas.List.{take_all}
use Rattle.std.specs.List.{flat_map}
use Rattle.run_trace.specs.Shown.{loads_shown}
use Rattle.run_trace.proofs.Adding.{all_more}
use Rattle.run_trace.proofs.loads.push_loads.Goals as goal

pub loop-happening-preserved : goal.loop-happening-preserved
loop-happening-preserved g c =
    rw (c.in_ok-push_decided.ensures.loads, c.loop-happening.invariant)
    (all_more (loads_shown c.args.rounds.now) c.args.events.now.items c.args.happenings.now c.loop-happening.happening-index
    c.happening-item.result c.loop-happening-test.true c.happening-item.is)

pub returns : goal.returns
returns g c = record {
  loads = c.loop-happening.invariant
      ∙ ap (λ hs. c.args.events.now.items ++ flat_map (loads_shown c.args.rounds.now) hs)
      (take_all c.loop-happening.happening-index c.args.happenings.now (omega (arith, c.loop-happening-test.false)));
}
