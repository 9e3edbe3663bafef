use Rattle.std.proofs.Common.{arith}
use Rattle.lb_snapshot.proofs.LoadBits.{next_joins, all_joined}
use Rattle.lb_lists.proofs.snapshot.are_light.Goals as goal

pub loop-units-preserved : goal.loop-units-preserved
loop-units-preserved c = next_joins c.args.loads.now c.loop-units.units-index c.loop-units.bits c.loop-units-test.true c.loop-units.invariant

pub returns : goal.returns
returns c = all_joined c.args.loads.now c.loop-units.units-index c.loop-units.bits (omega (arith, c.loop-units-test.false)) c.loop-units.invariant
