-- The limit of scaled loads, by the number of bits of their number.
use Rattle.std.proofs.Common.{◌≡◌, ◌∙◌, ℕ, zero, suc, ◌+◌, ◌-◌, ◌*◌, ◌/◌, ◌^◌, ◌<◌, ◌≤◌, ◌⊎◌, inl, inr, List, length, max, sum, arith, ap, subst, sym}
use Rattle.std.specs.Float.{Float}
use Rattle.std.specs.Prelude.{All, if◌then◌else◌}
use Rattle.std.proofs.Math.Nat.{mul-add, mul-le-mul_right}
use Rattle.std.proofs.Math.Pow.{pow_mono, pow_pos}
use Rattle.std.proofs.lemmas.Bool.{cases_lt, le-leb, lt-leb}
use Rattle.std.proofs.lemmas.List.{length-map}
use Rattle.std.proofs.lemmas.List.Elements.{All-map}
use Rattle.std.proofs.lemmas.List.Sums.{sum_by-le}
use Rattle.std.proofs.lemmas.Nat.{pow-add}
use Rattle.lb_lists.specs.Scales.{counts, least_power, load_limit, ticks, AreSmallIn}

-- the least power is the one that is not below n, where each lesser one is
pub least_power_is : (more first n k : ℕ) → first ≤ k → k ≤ first + more → n ≤ 2 ^ k → ((j : ℕ) → first ≤ j → j < k → 2 ^ j < n) → least_power more first n ≡ k
least_power_is zero first n k from to above below = omega (arith, from, to)
least_power_is (suc more) first n k from to above below = elim (cases_lt first k) [
  | inl less ↦
      ap (λ b. if b then first else least_power more (first + 1) n) (lt-leb n (2 ^ first) (below first (omega arith) less))
      ∙ least_power_is more (first + 1) n k (omega (arith, less)) (omega (arith, to)) above (λ j later before. below j (omega (arith, later)) before)
  | inr last ↦
      let same : first ≡ k = omega (arith, from, last) in
      ap (λ b. if b then first else least_power more (first + 1) n) (le-leb n (2 ^ first) (subst (λ j. n ≤ 2 ^ j) (sym same) above)) ∙ same
]

-- the power of the bits of the greater of n and 65,536, less 1
pub limit_by_bits : (n log : ℕ) → n < 2 ^ 32 → 2 ^ log ≤ max n 65536 - 1 → max n 65536 - 1 < 2 * 2 ^ log
    → (15 ≤ log) × (log < 32) × (n ≤ 2 ^ (log + 1)) × (load_limit n ≡ 2 ^ (62 - log) - 1)
limit_by_bits n log few reached passed =
    let low : 15 ≤ log = at_least (cases_lt log 15) in
    let high : log < 32 = at_most (cases_lt log 32) in
    let next : 2 ^ (log + 1) ≡ 2 * 2 ^ log = pow-add 2 log 1 ∙ omega arith in
    let above : n ≤ 2 ^ (log + 1) = omega (arith, passed, next) in
    let power : least_power 16 16 n ≡ log + 1 = least_power_is 16 16 n (log + 1) (omega (arith, low)) (omega (arith, high)) above (λ j from before.
    let within : j ≤ log = omega (arith, before) in
    let grown : 2 ^ j ≤ 2 ^ log = pow_mono within in
    let much : 2 ^ 16 ≤ 2 ^ j = pow_mono from in
    omega (arith, grown, much, reached)) in
    (low, high, above, ap (λ k. 2 ^ (63 - k) - 1) power ∙ ap (λ k. 2 ^ k - 1) (omega arith))
  where
    at_least : (log < 15) ⊎ (15 ≤ log) → 15 ≤ log
    at_least (inl less) =
        let within : log ≤ 14 = omega (arith, less) in
        let grown : 2 ^ log ≤ 2 ^ 14 = pow_mono within in
        absurd (omega (arith, grown, passed))
    at_least (inr more) = more

    at_most : (log < 32) ⊎ (32 ≤ log) → log < 32
    at_most (inl less) = less
    at_most (inr more) =
        let grown : 2 ^ 32 ≤ 2 ^ log = pow_mono more in
        absurd (omega (arith, grown, reached, few))

-- counts within a limit add up to at most that many times the limit
counts_add_up : (limit power : ℕ) (loads : List Float) → AreSmallIn limit power loads → sum (counts power loads) ≤ length loads * limit
counts_add_up limit power loads small =
    let each : All (λ x. x ≤ limit) (counts power loads) = All-map (λ x. x ≤ limit) (λ load. ticks load / 2 ^ power) loads small in
    omega (arith, sum_by-le (λ x. x) limit (counts power loads) each, ap (λ n. n * limit) (length-map loads (λ load. ticks load / 2 ^ power)))

-- so scaled loads can be planned
pub light : (bits power : ℕ) (loads : List Float) → bits ≤ 47 → length loads ≤ 2 ^ (63 - bits) → AreSmallIn (2 ^ bits - 1) power loads
    → sum (counts power loads) ≤ 9223372036854775807
light bits power loads few fits small =
    let most : length loads * (2 ^ bits - 1) ≤ 2 ^ (63 - bits) * (2 ^ bits - 1) = mul-le-mul_right (2 ^ bits - 1) fits in
    let together : 63 - bits + bits ≡ 63 = omega (arith, few) in
    let whole : 2 ^ (63 - bits) * 2 ^ bits ≡ 2 ^ 63 = sym (pow-add 2 (63 - bits) bits) ∙ ap (λ k. 2 ^ k) together in
    let next : 2 ^ bits ≡ 2 ^ bits - 1 + 1 = omega (arith, pow_pos bits) in
    let split : 2 ^ (63 - bits) * 2 ^ bits ≡ 2 ^ (63 - bits) * (2 ^ bits - 1) + 2 ^ (63 - bits) * 1 = ap (λ m. 2 ^ (63 - bits) * m) next
    ∙ mul-add (2 ^ (63 - bits)) (2 ^ bits - 1) 1 in
    omega (arith, counts_add_up (2 ^ bits - 1) power loads small, most, whole, split, pow_pos (63 - bits))
