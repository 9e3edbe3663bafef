-- What the bits of a measured load say of its ticks.
use Rattle.std.proofs.Common.{◌≡◌, ◌∙◌, refl, ℕ, zero, suc, ◌+◌, ◌-◌, ◌*◌, ◌/◌, ◌%◌, ◌^◌, ◌<◌, ◌≤◌, Bool, true, false, inl, inr, List, length, take, min, max, arith, ap, sym, subst}
use Rattle.std.proofs.Math.Nat.{mul-div_cancel, mul-one}
use Rattle.std.proofs.Math.Nat.{mul-div-mul_right, div-eq_of_lt, mod-eq_of_lt, mul-le-mul_left, mul_assoc, mul-pos, mul-lt-mul_of_pos_right, mul-le-mul_right, div-lt_iff_lt-mul, le-div_iff_mul-le}
use Rattle.std.proofs.Math.Pow.{pow-lt, pow_mono, pow_pos}
use Rattle.std.proofs.lemmas.Nat.{pow-add}
use Rattle.std.proofs.lemmas.Bool.{cases_lt, lt-leb, ne_eqb}
use Rattle.std.proofs.lemmas.List.{get_or-take, length-take}
use Rattle.std.specs.Float.{float_is_infinite}
use Rattle.std.specs.Prelude.{slice_index_or}
use lib.Dec.{T, eqb, leb, ltb, lt→ltb, ltb→lt}
use lib.IntN.{ℤ, pos}
use mathlib.Core.Bool.{cond, not}
use lib.Ieee.{Float, nan, inf, fin, binary64, fits, lt, up, down, odd, of_fields, of_bits, to_bits, is_nan, nan_bits, hid, top, ones}
use lib.Ieee.Bits.{of_bits-to_bits, nan_bits_is}
use lib.Ieee.Exact.{HasValue, odd_sign}
use lib.Ieee.Fits.{down_pos, up_pos}
use Rattle.lb_lists.specs.Scales.{ticks, AreSmallIn, IsLoadFault, IsMeasured}
use Rattle.lb_lists.specs.declared.scaling.ScaleError.TheVariants.{NotANumber, Negative, Infinite}

-- a number that is a / 2 ^ 1074 has a ticks
ticks_of_value : (x : Float) (s : Bool) (a : ℕ) → HasValue x s a (2 ^ 1074) → ticks x ≡ a
ticks_of_value nan s a value = absurd value
ticks_of_value (inf t) s a value = absurd value
ticks_of_value (fin t m e) s a value = ap (λ n. n / down e) value.1 ∙ mul-div_cancel a (down_pos e)

pub zero_field : (s : Bool) (t : ℕ) → ticks (of_fields binary64 s 0 t) ≡ t
unfolding of_fields
zero_field s t = ticks_of_value (odd 53 s t 0 1074) s (t * 2 ^ 0) (odd_sign 53 s t 0 1074) ∙ mul-one t

not_finite : (s b : Bool) → ¬ (IsMeasured (cond b (inf s) nan))
not_finite s true measured = measured
not_finite s false measured = measured

pub some_field : (s : Bool) (f t : ℕ) → IsMeasured (of_fields binary64 s (suc f) t) → ticks (of_fields binary64 s (suc f) t) ≡ (2 ^ 52 + t) * 2 ^ f
unfolding of_fields
some_field s f t measured = go (eqb (suc f) (ones binary64)) measured
  where
    go : (b : Bool) → IsMeasured (cond b (cond (eqb t 0) (inf s) nan) (odd 53 s (2 ^ 52 + t) f 1074))
        → ticks (cond b (cond (eqb t 0) (inf s) nan) (odd 53 s (2 ^ 52 + t) f 1074)) ≡ (2 ^ 52 + t) * 2 ^ f
    go true never = absurd (not_finite s (eqb t 0) never)
    go false _ = ticks_of_value (odd 53 s (2 ^ 52 + t) f 1074) s ((2 ^ 52 + t) * 2 ^ f) (odd_sign 53 s (2 ^ 52 + t) f 1074)

pub measured_number : (x : Float) → IsMeasured x → T (not (is_nan x))
unfolding is_nan
measured_number nan measured = absurd measured
measured_number (inf s) measured = absurd measured
measured_number (fin s m e) measured = tt

-- ---- a load from its bits

of_fields_is : (b : ℕ) → of_bits binary64 b ≡ of_fields binary64 (leb (top binary64) b) (b % top binary64 / hid binary64) (b % hid binary64)
unfolding of_bits
of_fields_is b = refl

pub zero_bits : (x : Float) → T (fits binary64 x) → to_bits binary64 x % 9223372036854775808 / 4503599627370496 ≡ 0 → ticks x ≡ to_bits binary64 x % 4503599627370496
zero_bits x held none =
    let b : ℕ = to_bits binary64 x in
    let read : of_fields binary64 (leb (top binary64) b) 0 (b % hid binary64) ≡ x = ap
    (λ f. of_fields binary64 (leb (top binary64) b) f (b % hid binary64)) (sym none) ∙ sym (of_fields_is b) ∙ of_bits-to_bits binary64 x held in
    ap ticks (sym read) ∙ zero_field (leb (top binary64) b) (b % hid binary64)

pub some_bits : (x : Float) (f : ℕ) → T (fits binary64 x) → IsMeasured x → to_bits binary64 x % 9223372036854775808 / 4503599627370496 ≡ suc f
    → ticks x ≡ (to_bits binary64 x % 4503599627370496 + 4503599627370496) * 2 ^ f
some_bits x f held measured some =
    let b : ℕ = to_bits binary64 x in
    let s : Bool = leb (top binary64) b in
    let t : ℕ = b % hid binary64 in
    let read : of_fields binary64 s (suc f) t ≡ x = ap (λ e. of_fields binary64 s e t) (sym some) ∙ sym (of_fields_is b) ∙ of_bits-to_bits binary64 x held in
    let there : IsMeasured (of_fields binary64 s (suc f) t) = subst IsMeasured (sym read) measured in
    let value : ticks x ≡ (4503599627370496 + t) * 2 ^ f = ap ticks (sym read) ∙ some_field s f t there in
    value ∙ ap (λ n. n * 2 ^ f) (omega arith)

-- ---- what is wrong with a load

pub zero_is : of_bits binary64 0 ≡ fin false 0 (pos 0)
unfolding of_bits of_fields odd
zero_is = refl

pub nan_wrong : (x : Float) → is_nan x ≡ true → IsLoadFault x NotANumber
unfolding is_nan
nan_wrong nan none = refl
nan_wrong (inf s) none = absurd cc
nan_wrong (fin s m e) none = absurd cc

no_zero : (m : ℕ) (e : ℤ) → T (ltb 0 (m * up e * 1 + 0 * 1 * down e)) → 0 < m
no_zero zero e above = absurd (omega (arith, ltb→lt _ _ above))
no_zero (suc m) e above = omega arith

pub negative_wrong : (x : Float) → T (lt x (fin false 0 (pos 0))) → IsLoadFault x Negative
unfolding lt
negative_wrong nan below = absurd below
negative_wrong (inf true) below = refl
negative_wrong (inf false) below = absurd below
negative_wrong (fin true m e) below = (refl, refl, no_zero m e below)
negative_wrong (fin false m e) below = absurd (omega (arith, ltb→lt _ _ below))

pub infinite_wrong : (x : Float) → float_is_infinite x ≡ true → ¬ (T (lt x (fin false 0 (pos 0)))) → IsLoadFault x Infinite
unfolding float_is_infinite lt
infinite_wrong nan endless above = absurd cc
infinite_wrong (inf true) endless above = absurd (above tt)
infinite_wrong (inf false) endless above = refl
infinite_wrong (fin s m e) endless above = absurd cc

is_above : (m : ℕ) (e : ℤ) → T (ltb 0 (suc m * up e * 1 + 0 * 1 * down e))
is_above m e = lt→ltb _ _ (omega (arith, mul-pos {m = suc m} {n = up e} (omega arith) (up_pos e)))

pub nothing_wrong : (x : Float) → is_nan x ≡ false → ¬ (T (lt x (fin false 0 (pos 0)))) → float_is_infinite x ≡ false → IsMeasured x
unfolding is_nan lt float_is_infinite
nothing_wrong nan number above bounded = absurd cc
nothing_wrong (inf s) number above bounded = absurd cc
nothing_wrong (fin false m e) number above bounded = inl refl
nothing_wrong (fin true zero e) number above bounded = inr refl
nothing_wrong (fin true (suc m) e) number above bounded = absurd (above (is_above m e))

-- ---- the power of a load

pub fits_in : (n d s l j w : ℕ) → 1 ≤ w → n ≡ d * 2 ^ s → d < 2 * 2 ^ l → j ≡ l + s - (w - 1) → n / 2 ^ j < 2 ^ w
fits_in n d s l j w some is above power =
    let whole : 2 * 2 ^ l * 2 ^ s ≡ 2 ^ (1 + (l + s)) = sym (pow-add 2 1 (l + s) ∙ ap (λ p. 2 * p) (pow-add 2 l s) ∙ sym (mul_assoc 2 (2 ^ l) (2 ^ s))) in
    let below : n < 2 ^ (1 + (l + s)) = omega (arith, is, whole, mul-lt-mul_of_pos_right above (pow_pos s)) in
    let within : 2 ^ (1 + (l + s)) ≤ 2 ^ (w + j) = pow_mono (omega (arith, power, some)) in
    let limit : n < 2 ^ w * 2 ^ j = subst (λ m. n < m) (pow-add 2 w j) (omega (arith, below, within)) in
    (div-lt_iff_lt-mul (pow_pos j)).1 limit

pub passes_below : (n d s l j k w : ℕ) → 1 ≤ w → n ≡ d * 2 ^ s → 2 ^ l ≤ d → j ≡ l + s - (w - 1) → k < j → 2 ^ w ≤ n / 2 ^ k
passes_below n d s l j k w some is above power less =
    let reached : 2 ^ (l + s) ≤ n = omega (arith, is, pow-add 2 l s, mul-le-mul_right (2 ^ s) above) in
    let within : 2 ^ (w + k) ≤ 2 ^ (l + s) = pow_mono (omega (arith, power, less)) in
    let limit : 2 ^ w * 2 ^ k ≤ n = subst (λ m. m ≤ n) (pow-add 2 w k) (omega (arith, reached, within)) in
    (le-div_iff_mul-le (pow_pos k)).1 limit

-- ---- the test against 0 that a body makes

pub tested_below : (x : Float) → lt x (of_bits binary64 0) ≡ true → T (lt x (fin false 0 (pos 0)))
tested_below x below = subst (λ zero. T (lt x zero)) zero_is (subst T (sym below) tt)

pub tested_above : (x : Float) → lt x (of_bits binary64 0) ≡ false → ¬ (T (lt x (fin false 0 (pos 0))))
tested_above x above below = subst T above (subst (λ zero. T (lt x zero)) (sym zero_is) below)

-- ---- counts of a load in a power

shifted_down : (n d s p : ℕ) → n ≡ d * 2 ^ s → s < p → n / 2 ^ p ≡ d / 2 ^ (p - s)
shifted_down n d s p is less =
    let power : 2 ^ p ≡ 2 ^ (p - s) * 2 ^ s = ap (λ k. 2 ^ k) (omega (arith, less)) ∙ pow-add 2 (p - s) s in
    ap (λ k. k / 2 ^ p) is ∙ ap (λ q. d * 2 ^ s / q) power ∙ mul-div-mul_right d (2 ^ (p - s)) (pow_pos s)

pub down_by : (n d s p k : ℕ) → n ≡ d * 2 ^ s → s < p → d < 2 ^ 53 → k ≡ min (p - s) 63 → d / 2 ^ k ≡ n / 2 ^ p
down_by n d s p k is less few least = elim (cases_lt 63 (p - s)) [
  | inl far ↦
      let at_most : k ≡ 63 = omega (arith, least, far) in
      let short : d < 2 ^ 63 = omega (arith, few) in
      let here : d / 2 ^ k ≡ 0 = ap (λ j. d / 2 ^ j) at_most ∙ div-eq_of_lt short in
      let there : 2 ^ 53 ≤ 2 ^ (p - s) = pow_mono {i = 53} {j = p - s} (omega (arith, far)) in
      let below : d < 2 ^ (p - s) = omega (arith, few, there) in
      here ∙ sym (div-eq_of_lt below) ∙ sym (shifted_down n d s p is less)
  | inr near ↦
      let same : k ≡ p - s = omega (arith, least, near) in
      ap (λ j. d / 2 ^ j) same ∙ sym (shifted_down n d s p is less)
]

pub shifted_up : (n d s p : ℕ) → n ≡ d * 2 ^ s → p ≤ s → n / 2 ^ p ≡ d * 2 ^ (s - p)
shifted_up n d s p is more =
    let power : d * 2 ^ s ≡ d * 2 ^ (s - p) * 2 ^ p = ap (λ k. d * 2 ^ k) (omega (arith, more)) ∙ ap (λ q. d * q) (pow-add 2 (s - p) p) ∙ sym (mul_assoc d (2 ^ (s - p)) (2 ^ p)) in
    ap (λ k. k / 2 ^ p) (is ∙ power) ∙ mul-div_cancel (d * 2 ^ (s - p)) (pow_pos p)

pub up_few : (n d s p : ℕ) → n ≡ d * 2 ^ s → p ≤ s → (d ≡ 0 → s ≡ 0) → n / 2 ^ p < 2 ^ 47 → s - p < 64
up_few n zero s p is more empty small = omega (arith, empty refl)
up_few n (suc d) s p is more empty small = elim (cases_lt (s - p) 64) [
  | inl few ↦ few
  | inr many ↦
      let great : 2 ^ 64 ≤ 2 ^ (s - p) = pow_mono many in
      let times : 1 * 2 ^ (s - p) ≤ suc d * 2 ^ (s - p) = mul-le-mul_right (2 ^ (s - p)) (omega arith) in
      absurd (omega (arith, great, times, shifted_up n (suc d) s p is more, small))
]

pub up_by : (n d s p : ℕ) → n ≡ d * 2 ^ s → p ≤ s → n / 2 ^ p < 2 ^ 47 → d * 2 ^ (s - p) % 18446744073709551616 ≡ n / 2 ^ p
up_by n d s p is more small =
    let whole = shifted_up n d s p is more in
    mod-eq_of_lt (omega (arith, whole, small)) ∙ sym whole

-- ---- the power of all loads

pub smaller_in : (limit n j k : ℕ) → j ≤ k → n / 2 ^ j ≤ limit → n / 2 ^ k ≤ limit
smaller_in limit n j k more small =
    let under : n < (limit + 1) * 2 ^ j = (div-lt_iff_lt-mul (pow_pos j)).0 (omega (arith, small)) in
    let grown : (limit + 1) * 2 ^ j ≤ (limit + 1) * 2 ^ k = mul-le-mul_left (limit + 1) (pow_mono more) in
    let still : n / 2 ^ k < limit + 1 = (div-lt_iff_lt-mul (pow_pos k)).1 (omega (arith, under, grown)) in
    omega (arith, still)

pub all_smaller : (limit : ℕ) (loads : List Float) (j k : ℕ) → j ≤ k → AreSmallIn limit j loads → AreSmallIn limit k loads
all_smaller limit loads j k more small i d inside = smaller_in limit (ticks (slice_index_or loads i d)) j k more (small i d inside)

pub least_of_more : (limit : ℕ) (loads : List Float) (i power needed greatest : ℕ) → i < length loads → greatest ≡ max power needed
    → ((p : ℕ) → p < power → ¬ (AreSmallIn limit p (take i loads))) → ((p : ℕ) → p < needed → limit < ticks (slice_index_or loads i nan) / 2 ^ p)
    → (p : ℕ) → p < greatest → ¬ (AreSmallIn limit p (take (i + 1) loads))
least_of_more limit loads i power needed greatest inside is least passes p less small = elim (cases_lt p power) [
  | inl earlier ↦ least p earlier (λ k d within. rest k d within)
  | inr later ↦
      let this : ticks (slice_index_or (take (i + 1) loads) i nan) / 2 ^ p ≤ limit = small i nan (omega (arith, length-take (i + 1) loads, inside)) in
      let same : slice_index_or (take (i + 1) loads) i nan ≡ slice_index_or loads i nan = get_or-take (i + 1) loads i nan (omega arith) in
      absurd (omega (arith, subst (λ x. ticks x / 2 ^ p ≤ limit) same this, passes p (omega (arith, less, is, later))))
]
  where
    rest : (k : ℕ) (d : Float) → k < length (take i loads) → ticks (slice_index_or (take i loads) k d) / 2 ^ p ≤ limit
    rest k d within =
        let below : k < i = omega (arith, within, length-take i loads) in
        let same : slice_index_or (take (i + 1) loads) k d ≡ slice_index_or (take i loads) k d = get_or-take (i + 1) loads k d
        (omega (arith, below)) ∙ sym (get_or-take i loads k d below) in
        subst (λ x. ticks x / 2 ^ p ≤ limit) same (small k d (omega (arith, within, length-take (i + 1) loads, inside, below)))

-- ---- a unit from its bits

pub pattern : (b f t : ℕ) → b ≡ f * 4503599627370496 + t → f < 2047 → t < 4503599627370496 → of_bits binary64 b ≡ of_fields binary64 false f t
pattern b f t is field digits =
    let positive : leb 9223372036854775808 b ≡ false = lt-leb 9223372036854775808 b (omega (arith, is, field, digits)) in
    let high : b % 9223372036854775808 / 4503599627370496 ≡ f = omega (arith, is, field, digits) in
    let low_part : b % 4503599627370496 ≡ t = omega (arith, is, field, digits) in
    of_fields_is b
    ∙ ap (λ s. of_fields binary64 s (b % 9223372036854775808 / 4503599627370496) (b % 4503599627370496)) positive
    ∙ ap (λ e. of_fields binary64 false e (b % 4503599627370496)) high
    ∙ ap (of_fields binary64 false f) low_part

measured_of_value : (x : Float) (a c : ℕ) → HasValue x false a c → IsMeasured x
measured_of_value nan a c value = absurd value
measured_of_value (inf s) a c value = absurd value
measured_of_value (fin s m e) a c value = inl value.0

measured_low : (t : ℕ) → IsMeasured (of_fields binary64 false 0 t)
unfolding of_fields
measured_low t = measured_of_value (odd 53 false t 0 1074) (t * 2 ^ 0) (2 ^ 1074) (odd_sign 53 false t 0 1074)

measured_high : (f t : ℕ) → suc f < 2047 → IsMeasured (of_fields binary64 false (suc f) t)
unfolding of_fields
measured_high f t few =
    let number : eqb (suc f) 2047 ≡ false = ne_eqb (suc f) 2047 (λ same. absurd (omega (arith, few, same))) in
    subst (λ b. IsMeasured (cond b (cond (eqb t 0) (inf false) nan) (odd 53 false (4503599627370496 + t) f 1074))) (sym number)
    (measured_of_value (odd 53 false (4503599627370496 + t) f 1074) ((4503599627370496 + t) * 2 ^ f) (2 ^ 1074)
    (odd_sign 53 false (4503599627370496 + t) f 1074))

-- a unit below the least normal number, and another
pub low_unit : (b p : ℕ) → b ≡ 2 ^ p → p < 52 → IsMeasured (of_bits binary64 b) × (ticks (of_bits binary64 b) ≡ 2 ^ p)
low_unit b p is few =
    let small : 2 ^ p < 2 ^ 52 = pow-lt few in
    let read : of_bits binary64 b ≡ of_fields binary64 false 0 (2 ^ p) = pattern b 0 (2 ^ p) (omega (arith, is)) (omega arith) small in
    (subst IsMeasured (sym read) (measured_low (2 ^ p)), ap ticks read ∙ zero_field false (2 ^ p))

pub high_unit : (b p : ℕ) → b ≡ (p - 51) * 4503599627370496 → 52 ≤ p → p < 2098 → IsMeasured (of_bits binary64 b) × (ticks (of_bits binary64 b) ≡ 2 ^ p)
high_unit b p is many few =
    let read : of_bits binary64 b ≡ of_fields binary64 false (suc (p - 52)) 0 = pattern b (suc (p - 52)) 0 (omega (arith, is, many)) (omega (arith, few, many)) (omega arith) in
    let measured = measured_high (p - 52) 0 (omega (arith, few, many)) in
    let power : 4503599627370496 * 2 ^ (p - 52) ≡ 2 ^ p = sym (pow-add 2 52 (p - 52)) ∙ ap (λ k. 2 ^ k) (omega (arith, many)) in
    (subst IsMeasured (sym read) measured, ap ticks read ∙ some_field false (p - 52) 0 measured ∙ power)

pub number_bits : (b : ℕ) → IsMeasured (of_bits binary64 b) → T (not (nan_bits binary64 b))
number_bits b measured = subst (λ n. T (not n)) (sym (nan_bits_is binary64 b)) (measured_number (of_bits binary64 b) measured)
