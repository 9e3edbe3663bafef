use Rattle.std.proofs.Common.{◌<◌, ◌-◌, ◌^◌, ℕ, take}
use Rattle.lb_lists.specs.Scales.{AreSmallIn}
use Rattle.lb_lists.proofs.scaling.power_of.Given as goal

abbrev pub invariant-loop-load : goal.invariant-loop-load
invariant-loop-load l =
    record {
      small : AreSmallIn (2 ^ l.bits - 1) l.power (take l.load-index l.loads);
      least : (power : ℕ) → power < l.power → ¬ (AreSmallIn (2 ^ l.bits - 1) power (take l.load-index l.loads));
      bound : l.power < 2098;
    }
