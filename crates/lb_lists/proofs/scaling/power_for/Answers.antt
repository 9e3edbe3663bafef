use Rattle.std.proofs.Common.{arith}
use Rattle.lb_lists.proofs.Ticks.{fits_in, passes_below}
use Rattle.lb_lists.proofs.scaling.power_for.Goals as goal

pub returns-clause-small : goal.returns-clause-small
returns-clause-small c = fits_in _ _ _ _ _ c.args.bits (omega (arith, c.requires.some)) c.parts_of-digits.ensures.ticks c.ilog2.ensures.next_power_gt c.saturating_sub.ensures

pub returns-clause-least : goal.returns-clause-least
returns-clause-least c power less = passes_below _ _ _ _ _ power c.args.bits (omega (arith, c.requires.some))
    c.parts_of-digits.ensures.ticks c.ilog2.ensures.power_le c.saturating_sub.ensures less
