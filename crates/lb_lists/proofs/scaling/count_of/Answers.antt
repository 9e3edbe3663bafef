use Rattle.lb_lists.proofs.Ticks.{down_by, up_by, up_few}
use Rattle.lb_lists.proofs.scaling.count_of.Goals as goal

pub returns-then-shift-power : goal.returns-then-shift-power
returns-then-shift-power c = down_by _ _ _ c.args.power _ c.parts_of-digits.ensures.ticks c.if-shift-power.true c.parts_of-digits.ensures.digits c.min.ensures

pub overflow_shl-result : goal.overflow_shl-result
overflow_shl-result c = up_few _ _ _ c.args.power c.parts_of-digits.ensures.ticks c.if-shift-power.false c.parts_of-digits.ensures.zero c.requires.small

pub returns : goal.returns
returns c = up_by _ _ _ c.args.power c.parts_of-digits.ensures.ticks c.if-shift-power.false c.requires.small
