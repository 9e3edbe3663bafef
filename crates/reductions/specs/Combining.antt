-- The operations of reductions. Source: the Charm++ manual on reductions: sum, min and max. That sums saturate, and that a NaN is the
-- least and the greatest of any values among which there is one, are this project's choices.
use Rattle.std.specs.Prelude.{ℕ, ℤ, ◌+◌, ◌-◌, ◌^◌, ◌+ℤ◌, min, max, cond, ◌||◌, is_nan}
use Rattle.std.specs.Float.{Float, binary64}
use Rattle.std.specs.Float.Ieee.{add, lt}
use Rattle.std.specs.Int.{w64, int_max, int_min, saturate_signed}

-- a value packs into at most this many bytes
abbrev pub VALUE_BYTES : ℕ
VALUE_BYTES = 32

abbrev pub sum_u64 : ℕ → ℕ → ℕ
sum_u64 left right = min (left + right) (2 ^ 64 - 1)

abbrev pub sum_i64 : ℤ → ℤ → ℤ
sum_i64 left right = saturate_signed w64 (left +ℤ right)

-- by IEEE 754, rounded to nearest, a tie to the even one
abbrev pub sum_f64 : Float → Float → Float
sum_f64 left right = add binary64 left right

abbrev pub least_u64 : ℕ → ℕ → ℕ
least_u64 left right = min left right

abbrev pub least_i64 : ℤ → ℤ → ℤ
least_i64 left right = int_min left right

abbrev pub greatest_u64 : ℕ → ℕ → ℕ
greatest_u64 left right = max left right

abbrev pub greatest_i64 : ℤ → ℤ → ℤ
greatest_i64 left right = int_max left right

-- a NaN where one of the two is a NaN; the left one of two that compare equal
abbrev pub least_f64 : Float → Float → Float
least_f64 left right = cond (lt right left || is_nan right) right left

abbrev pub greatest_f64 : Float → Float → Float
greatest_f64 left right = cond (lt left right || is_nan right) right left
