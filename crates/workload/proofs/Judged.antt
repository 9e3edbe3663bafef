-- What the reader of the code needs of its lines and numbers.
use Rattle.std.proofs.Common.{◌≡◌, ◌≢◌, ℕ, ◌+◌, ◌*◌, ◌-◌, ◌^◌, ◌<◌, ◌≤◌, true, false, refl, add-one, arith}
use Rattle.std.specs.Char.{is_ascii_digit}
use Rattle.std.proofs.Math.Nat.{pow-suc}
use Rattle.std.proofs.lemmas.Bool.Decides.{nat_tests}
use Rattle.workload.specs.declared.form.Line.{Line}
use Rattle.workload.specs.declared.form.Line.TheVariants.{Pes, Rounds, Pad, Chares, Amounts}
use Rattle.workload.specs.Faults.{in_range}
use Rattle.workload.specs.declared.form.TheConstants.{DIGITS}
use Rattle.workload.specs.Machine.{form_of, is_full}

-- a number that a line may have has 32 bits
pub in_range_small : (line : Line) (chares n : ℕ) → in_range (form_of line chares) n ≡ true → n < 2 ^ 32
in_range_small Pes chares n ranged = grind (arith, nat_tests)
in_range_small Rounds chares n ranged = grind (arith, nat_tests)
in_range_small Pad chares n ranged = grind (arith, nat_tests)
in_range_small Chares chares n ranged = grind (arith, nat_tests)
in_range_small Amounts chares n ranged = grind (arith, nat_tests)

-- one more digit of a number that may have more
pub digit_more : (value digits b : ℕ) → is_ascii_digit b ≡ true → is_full value digits ≡ false → digits ≤ DIGITS → value < 10 ^ digits
    → (digits + 1 ≤ DIGITS) × (10 * value + (b - 48) < 10 ^ (digits + 1))
digit_more value digits b digit free few small =
    let low : b ≤ 57 = grind (arith, nat_tests) in
    let more : digits ≢ DIGITS = grind (arith, nat_tests) in
    let power : 10 ^ (digits + 1) ≡ 10 ^ digits * 10 = rw (add-one, pow-suc) refl in
    (omega arith, omega (arith, low))
