use Rattle.std.proofs.Common.{Bool, ℕ, arith}
use Rattle.schedules.proofs.Counts.{none_at_first}
use Rattle.schedules.proofs.number_set.NumberSet.new.Goals as goal

pub invariant_of-result : goal.invariant_of-result
invariant_of-result g c =
    let d = c.div_ceil.ensures in
    none_at_first c.in_ok-from_elem.field-0.items c.in_ok-from_elem-2.field-0.items c.args.bound c.div_ceil.result
    (c.in_ok-from_elem.ensures.items_if_clones_equal (λ (y : Bool) e. e)) (c.in_ok-from_elem-2.ensures.items_if_clones_equal (λ (y : ℕ) e. e))
    (omega (arith, c.ranges.bound.fits)) (omega (arith, d)) (omega (arith, d, c.ranges.bound.fits))
