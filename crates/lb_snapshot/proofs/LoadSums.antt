-- Sums of loads stay below 2^63.
use Rattle.std.proofs.Common.{ℕ, ◌+◌, ◌*◌, ◌^◌, ◌<◌, ◌≤◌, List, length, sum, take, get_or, arith}
use Rattle.std.proofs.lemmas.List.Sums.{sum_by-le, sum_by_more_le}
use Rattle.std.proofs.Math.Nat.{mul-le-mul_right}
use Rattle.chare_index.specs.declared.limits.TheConstants.Limits.{ELEMENTS, LOAD}
use Rattle.lb_snapshot.specs.Measured.{IsLoads}

pub sum_small : (loads : List ℕ) → IsLoads loads → sum loads ≤ ELEMENTS * LOAD
sum_small loads h =
    omega (arith, sum_by-le (λ x. x) LOAD loads h.small, mul-le-mul_right LOAD h.few)

-- the sum with one more load is below 2^64
pub next_fits : (loads : List ℕ) (i d : ℕ) → IsLoads loads → i < length loads → sum (take i loads) + get_or loads i d < 2 ^ 64
next_fits loads i d h inside =
    omega (arith, sum_small loads h, sum_by_more_le (λ x. x) loads i d inside)
