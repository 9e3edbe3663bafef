use Rattle.std.proofs.Common.{arith}
use Rattle.std.proofs.Math.Pow.{pow-lt}
use Rattle.lb_lists.proofs.Ticks.{high_unit, low_unit, number_bits}
use Rattle.lb_lists.proofs.scaling.unit_of.Goals as goal

pub returns-then-power-lt52-clause-measured : goal.returns-then-power-lt52-clause-measured
returns-then-power-lt52-clause-measured c = (low_unit _ c.args.power (omega (arith, pow-lt {i = c.args.power} {j = 52} c.if-power-lt52.true)) c.if-power-lt52.true).0

pub returns-then-power-lt52-clause-ticks : goal.returns-then-power-lt52-clause-ticks
returns-then-power-lt52-clause-ticks c = (low_unit _ c.args.power (omega (arith, pow-lt {i = c.args.power} {j = 52} c.if-power-lt52.true)) c.if-power-lt52.true).1

pub float_from_bits-result : goal.float_from_bits-result
float_from_bits-result c = number_bits _ (low_unit _ c.args.power (omega (arith, pow-lt {i = c.args.power} {j = 52} c.if-power-lt52.true)) c.if-power-lt52.true).0

pub returns-clause-measured : goal.returns-clause-measured
returns-clause-measured c = (high_unit _ c.args.power (omega (arith, c.from.ensures, c.if-power-lt52.false, c.requires)) c.if-power-lt52.false c.requires).0

pub returns-clause-ticks : goal.returns-clause-ticks
returns-clause-ticks c = (high_unit _ c.args.power (omega (arith, c.from.ensures, c.if-power-lt52.false, c.requires)) c.if-power-lt52.false c.requires).1

pub float_from_bits-result-2 : goal.float_from_bits-result-2
float_from_bits-result-2 c = number_bits _ (high_unit _ c.args.power (omega (arith, c.from.ensures, c.if-power-lt52.false, c.requires)) c.if-power-lt52.false c.requires).0
