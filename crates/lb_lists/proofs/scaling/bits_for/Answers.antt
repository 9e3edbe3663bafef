use Rattle.std.proofs.Common.{◌≤◌, ◌^◌, arith, subst}
use Rattle.lb_lists.proofs.LoadLimits.{limit_by_bits}
use Rattle.lb_lists.proofs.scaling.bits_for.Goals as goal

pub returns-clause-limit : goal.returns-clause-limit
returns-clause-limit c = (limit_by_bits c.args.count c.ilog2.result c.requires (omega (arith, c.ilog2.ensures.power_le, c.max.ensures))
    (omega (arith, c.ilog2.ensures.next_power_gt, c.max.ensures))).3

pub returns-clause-many : goal.returns-clause-many
returns-clause-many c =
    let bits = limit_by_bits c.args.count c.ilog2.result c.requires (omega (arith, c.ilog2.ensures.power_le, c.max.ensures))
    (omega (arith, c.ilog2.ensures.next_power_gt, c.max.ensures)) in
    subst (λ k. c.args.count ≤ 2 ^ k) (omega (arith, bits.0, bits.1)) bits.2

pub returns-clause-some : goal.returns-clause-some
returns-clause-some c =
    let bits = limit_by_bits c.args.count c.ilog2.result c.requires (omega (arith, c.ilog2.ensures.power_le, c.max.ensures))
    (omega (arith, c.ilog2.ensures.next_power_gt, c.max.ensures)) in
    omega (arith, bits.1)

pub returns-clause-few : goal.returns-clause-few
returns-clause-few c =
    let bits = limit_by_bits c.args.count c.ilog2.result c.requires (omega (arith, c.ilog2.ensures.power_le, c.max.ensures))
    (omega (arith, c.ilog2.ensures.next_power_gt, c.max.ensures)) in
    omega (arith, bits.0)
