-- What rounding a list of numbers down to whole units makes of the peaks of its divisions.
use Rattle.std.proofs.Common.{◌≡◌, ℕ, ◌+◌, ◌-◌, ◌*◌, ◌/◌, ◌^◌, ◌<◌, ◌≤◌, max, inl, inr, List, [], ◌∷◌, length, map, take, drop, arith, ap, refl, subst, sym, ◌∙◌}
use Rattle.std.proofs.lemmas.Bool.{cases_lt}
use Rattle.std.proofs.lemmas.List.{length-drop, length-map, length-take, take-map}
use Rattle.std.proofs.lemmas.List.Sums.{sum_by-cons}
use Rattle.std.proofs.Math.Nat.{lt-mul-div-succ, mul-div-le, mul-le-mul_left, mul-add, suc-mul}
use Rattle.std.proofs.Math.Pow.{pow_pos}
use Rattle.std.specs.Float.{Float}
use Rattle.std.specs.List.{drop-map, sum}
use Rattle.std.specs.Prelude.{slice_range}
use Rattle.lb_certificates.specs.Chain.{peak, IsDivision, IsLeastDivision}
use Rattle.lb_snapshot.specs.Measured.{load}
use Rattle.lb_lists.specs.Scales.{counts, in_ticks, ticks, IsScaled}

-- numbers in whole units of u
abbrev in_units : ℕ → List ℕ → List ℕ
in_units u xs = map (λ x. x / u) xs

with_first : (x : ℕ) (xs : List ℕ) → sum (x ∷ xs) ≡ x + sum xs
with_first x xs = sum_by-cons (λ n. n) x xs

sum_low : (u : ℕ) (xs : List ℕ) → u * sum (in_units u xs) ≤ sum xs
sum_low u [] = omega arith
sum_low u (x ∷ xs) = omega (arith, with_first x xs, ap (λ s. u * s) (with_first (x / u) (in_units u xs)), mul-add u (x / u) (sum (in_units u xs)), mul-div-le x u, sum_low u xs)

sum_high : (u : ℕ) → 0 < u → (xs : List ℕ) → sum xs ≤ u * sum (in_units u xs) + length xs * u
sum_high u some [] = omega arith
sum_high u some (x ∷ xs) =
    let head : x < u * (x / u) + u = omega (arith, lt-mul-div-succ x some, mul-add u (x / u) 1) in
    let count : length (x ∷ xs) * u ≡ length xs * u + u = suc-mul (length xs) u in
    omega (arith, with_first x xs, ap (λ s. u * s) (with_first (x / u) (in_units u xs)), mul-add u (x / u) (sum (in_units u xs)), head, count, sum_high u some xs)

-- a part of the list in units is the list of that part in units
part_in_units : (u : ℕ) (xs : List ℕ) (a b : ℕ) → slice_range (in_units u xs) a b ≡ in_units u (slice_range xs a b)
part_in_units u xs a b = ap (take (b - a)) (drop-map (λ x. x / u) a xs) ∙ take-map (λ x. x / u) (b - a) (drop a xs)

load_low : (u : ℕ) (xs : List ℕ) (a b : ℕ) → u * load (in_units u xs) a b ≤ load xs a b
load_low u xs a b = subst (λ part. u * sum part ≤ load xs a b) (sym (part_in_units u xs a b)) (sum_low u (slice_range xs a b))

load_high : (u : ℕ) (xs : List ℕ) (a b : ℕ) → 0 < u → load xs a b ≤ u * load (in_units u xs) a b + length xs * u
load_high u xs a b some =
    let few : length (slice_range xs a b) ≤ length xs = omega (arith, length-take (b - a) (drop a xs), length-drop a xs) in
    let part : load xs a b ≤ u * sum (in_units u (slice_range xs a b)) + length (slice_range xs a b) * u = sum_high u some (slice_range xs a b) in
    let same : u * sum (in_units u (slice_range xs a b)) ≡ u * load (in_units u xs) a b = ap (λ p. u * sum p) (sym (part_in_units u xs a b)) in
    omega (arith, part, same, mul-le-mul_left u few)

-- bounds of two loads bound the greater of them
max_low : (u p q r s : ℕ) → u * p ≤ r → u * q ≤ s → u * max p q ≤ max r s
max_low u p q r s low lower = elim (cases_lt p q) [
  | inl less ↦ omega (arith, ap (λ k. u * k) {x = max p q} {y = q} (omega (arith, less)), lower)
  | inr more ↦ omega (arith, ap (λ k. u * k) {x = max p q} {y = p} (omega (arith, more)), low)
]

max_high : (u p q r s c : ℕ) → r ≤ u * p + c → s ≤ u * q + c → max r s ≤ u * max p q + c
max_high u p q r s c high higher =
    omega (arith, high, higher, mul-le-mul_left {m = p} {n = max p q} u (omega arith), mul-le-mul_left {m = q} {n = max p q} u (omega arith))

peak_low : (u : ℕ) (xs cuts : List ℕ) → u * peak (in_units u xs) cuts ≤ peak xs cuts
peak_low u xs [] = omega arith
peak_low u xs (a ∷ []) = omega arith
peak_low u xs (a ∷ b ∷ cuts) =
    max_low u (load (in_units u xs) a b) (peak (in_units u xs) (b ∷ cuts)) (load xs a b) (peak xs (b ∷ cuts)) (load_low u xs a b) (peak_low u xs (b ∷ cuts))

peak_high : (u : ℕ) (xs cuts : List ℕ) → 0 < u → peak xs cuts ≤ u * peak (in_units u xs) cuts + length xs * u
peak_high u xs [] some = omega arith
peak_high u xs (a ∷ []) some = omega arith
peak_high u xs (a ∷ b ∷ cuts) some =
    max_high u (load (in_units u xs) a b) (peak (in_units u xs) (b ∷ cuts)) (load xs a b) (peak xs (b ∷ cuts)) (length xs * u)
    (load_high u xs a b some) (peak_high u xs (b ∷ cuts) some)

-- counts of loads are their ticks in whole units
counts_in_units : (power : ℕ) (loads : List Float) → counts power loads ≡ in_units (2 ^ power) (in_ticks loads)
counts_in_units power [] = refl
counts_in_units power (l ∷ loads) = ap (λ rest. ticks l / 2 ^ power ∷ rest) (counts_in_units power loads)

-- a division that is least for the counts is nearly least for the loads
pub near : (loads : List Float) (unit : Float) (scaled : List ℕ) (pes bottleneck : ℕ) (cuts others : List ℕ) → IsScaled loads unit scaled
    → IsLeastDivision scaled pes bottleneck cuts → IsDivision 0 (length loads) pes others
    → peak (in_ticks loads) cuts ≤ peak (in_ticks loads) others + length loads * ticks unit
near loads unit scaled pes bottleneck cuts others is least division =
    let u : ℕ = 2 ^ is.power in
    let xs : List ℕ = in_ticks loads in
    let ys : scaled ≡ in_units u xs = is.counted ∙ counts_in_units is.power loads in
    let n : length scaled ≡ length loads = ap length is.counted ∙ length-map loads (λ l. ticks l / u) in
    let m : length xs ≡ length loads = length-map loads ticks in
    let fewest : peak scaled cuts ≤ peak scaled others = least.least others (subst (λ k. IsDivision 0 k pes others) (sym n) division) in
    let no_more : u * peak (in_units u xs) cuts ≤ u * peak (in_units u xs) others = mul-le-mul_left u (subst (λ s. peak s cuts ≤ peak s others) ys fewest) in
    let rounded : length xs * u ≡ length loads * ticks unit = ap (λ k. k * u) m ∙ ap (λ k. length loads * k) (sym is.unit_is) in
    omega (arith, no_more, rounded, peak_low u xs others, peak_high u xs cuts (pow_pos is.power))
