use Rattle.std.proofs.Common.{◌∙◌, arith, sym}
use Rattle.std.proofs.Math.Nat.{mul-one}
use Rattle.std.specs.Bool.{passes}
use Rattle.lb_lists.proofs.Ticks.{measured_number, some_bits, zero_bits}
use Rattle.lb_lists.proofs.scaling.parts_of.Goals as goal

pub float_to_bits-bits : goal.float_to_bits-bits
float_to_bits-bits c = measured_number c.args.load c.requires

pub returns-then-field-eq0-clause-ticks : goal.returns-then-field-eq0-clause-ticks
returns-then-field-eq0-clause-ticks c = zero_bits c.args.load (passes _ c.well_formed.0.1) c.if-field-eq0.true ∙ sym (mul-one _)

pub returns-clause-ticks : goal.returns-clause-ticks
returns-clause-ticks c = some_bits c.args.load _ (passes _ c.well_formed.0.1) c.requires (omega (arith, c.if-field-eq0.false))

pub returns-clause-shift : goal.returns-clause-shift
returns-clause-shift c = omega arith
