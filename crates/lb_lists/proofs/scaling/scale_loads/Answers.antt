use Rattle.std.proofs.Common.{subst, sym}
use Rattle.lb_lists.specs.Runs.{AreSmall}
use Rattle.lb_lists.proofs.LoadLimits.{light}
use Rattle.lb_lists.proofs.scaling.scale_loads.Goals as goal

pub returns-clause-small : goal.returns-clause-small
returns-clause-small c =
    subst AreSmall (sym c.write_counts.ensures) (light c.bits_for.result c.power_of-power.result c.args.loads.now c.bits_for.ensures.few
    c.bits_for.ensures.many c.power_of-power.ensures.small)
