use Rattle.std.proofs.Common.{◌≡◌, ◌*◌, ◌^◌, take, pos, neg_ℤ, ◌≤ℤ◌}
use Rattle.lb_certificates.specs.Naming.{price_sum}
use Rattle.speed_namings.proofs.prices.sum_of.Given as goal

abbrev pub invariant-loop-price : goal.invariant-loop-price
invariant-loop-price l =
    (l.sum ≡ price_sum (take l.price-index l.prices)) × (neg_ℤ (pos (2 ^ 63 * l.price-index)) ≤ℤ l.sum) × (l.sum ≤ℤ pos (2 ^ 63 * l.price-index))
