use Rattle.std.proofs.Common.{◌≤◌, ◌-◌, ◌/◌, ◌^◌, arith, subst, take}
use Rattle.std.proofs.Math.Pow.{pow_pos}
use Rattle.std.proofs.lemmas.List.{take_all}
use Rattle.std.proofs.lemmas.List.Elements.{All-more}
use Rattle.std.specs.Float.{nan}
use Rattle.std.specs.Prelude.{slice_index_or}
use Rattle.lb_lists.specs.Scales.{ticks, AreSmallIn}
use Rattle.lb_lists.proofs.Ticks.{all_smaller, least_of_more, smaller_in}
use Rattle.lb_lists.proofs.scaling.power_of.Goals as goal

pub loop-load-preserved : goal.loop-load-preserved
loop-load-preserved c =
    let limit = 2 ^ c.args.bits - 1 in
    let more = c.greater-power.ensures in
    let earlier = all_smaller limit (take c.loop-load.load-index c.args.loads.now) c.loop-load.power c.greater-power.result (omega (arith, more)) c.loop-load.invariant.small in
    let load = slice_index_or c.args.loads.now c.loop-load.load-index nan in
    let within : ticks load / 2 ^ c.power_for.result ≤ limit = omega (arith, c.power_for.ensures.small) in
    let this = smaller_in limit (ticks load) c.power_for.result c.greater-power.result (omega (arith, more)) within in
    record {
      small = All-more (λ load. ticks load / 2 ^ c.greater-power.result ≤ limit) c.args.loads.now c.loop-load.load-index nan c.loop-load-test.true earlier this;
      least = least_of_more limit c.args.loads.now c.loop-load.load-index c.loop-load.power c.power_for.result c.greater-power.result
          c.loop-load-test.true more c.loop-load.invariant.least (λ power less. omega (arith, c.power_for.ensures.least power less, pow_pos c.args.bits));
      bound = omega (arith, more, c.loop-load.invariant.bound, c.power_for.ensures.bound);
    }

pub returns-clause-small : goal.returns-clause-small
returns-clause-small c = subst (AreSmallIn (2 ^ c.args.bits - 1) c.loop-load.power)
    (take_all c.loop-load.load-index c.args.loads.now (omega (arith, c.loop-load-test.false))) c.loop-load.invariant.small
