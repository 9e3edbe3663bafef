-- What the reader does with a number, and which number that is.
use Rattle.std.proofs.Common.{◌≡◌, ◌≢◌, ℕ, ◌+◌, ◌*◌, ◌-◌, ◌/◌, ◌%◌, ◌^◌, ◌<◌, ◌≤◌, true, false, List, [], ◌∷◌, ◌++◌}
use Rattle.std.proofs.Common.{length, drop, Option, Some, None, refl, sym, ap, ◌∙◌, inl, inr, arith, append_assoc, add-one}
use Rattle.std.specs.Prelude.{◌==◌, slice_get}
use Rattle.std.specs.Char.{is_ascii_digit}
use Rattle.std.specs.Fmt.{decimal}
use Rattle.std.proofs.lemmas.Bool.{cases_Bool, cases_lt, eqb-false, ne_eqb}
use Rattle.std.proofs.lemmas.Bool.Decides.{nat_tests}
use Rattle.std.proofs.lemmas.Fmt.{decimal_by_steps_wide, decimal_digit, decimal_step_wide, length-decimal-le_wide}
use Rattle.std.proofs.lemmas.List.{length_push}
use Rattle.std.proofs.Math.Nat.{pow-le-pow_right, pow-suc}
use Rattle.run_checkpoint.specs.declared.form.TheConstants.{DIGITS}
use Rattle.run_checkpoint.specs.Scanning.{is_full, whole, digits_at}

-- the digits so far are those of the value
pub record IsDigits (value digits : ℕ) (text : List ℕ) : Type 0 where
  pub counted : length text ≡ digits
  pub few : digits ≤ DIGITS
  pub small : value < 10 ^ digits
  pub none : digits ≡ 0 → (text ≡ []) × (value ≡ 0)
  pub some : 0 < digits → text ≡ decimal value

no_digits : IsDigits 0 0 []
no_digits = record { counted = refl; few = omega arith; small = omega arith; none = λ _. (refl, refl); some = λ some. absurd (omega arith) }

digit_range : (b : ℕ) → is_ascii_digit b ≡ true → (48 ≤ b) × (b ≤ 57)
digit_range b digit = grind (arith, nat_tests)

pub more_small : (value digits b : ℕ) → value < 10 ^ digits → is_ascii_digit b ≡ true → 10 * value + (b - 48) < 10 ^ (digits + 1)
more_small value digits b small digit =
    let range = digit_range b digit in
    let power : 10 ^ (digits + 1) ≡ 10 ^ digits * 10 = pow-add_one digits in
    omega (arith, range.0, range.1)
  where
    pow-add_one : (n : ℕ) → 10 ^ (n + 1) ≡ 10 ^ n * 10
    pow-add_one n = rw (add-one, pow-suc) refl

next_digit : (value digits b : ℕ) (text : List ℕ) → IsDigits value digits text → is_ascii_digit b ≡ true → is_full value digits ≡ false
    → IsDigits (10 * value + (b - 48)) (digits + 1) (text ++ b ∷ [])
next_digit value digits b text is digit free =
    let range = digit_range b digit in
    let more : (digits ≢ DIGITS) × (digits ≡ 1 → value ≡ 0 → ⊥) = grind (arith, nat_tests) in
    record {
      counted = omega (arith, length_push text b, is.counted);
      few = omega (arith, is.few, more.0);
      small = more_small value digits b is.small digit;
      none = λ e. absurd (omega arith);
      some = λ _. elim (cases_lt 0 digits) [
        | inl some ↦ behind (is.some some) range more (digits_of_zero (is.some some))
        | inr none ↦ first (is.none (omega arith)) range
      ];
    }
  where
    first : (text ≡ []) × (value ≡ 0) → (48 ≤ b) × (b ≤ 57) → text ++ b ∷ [] ≡ decimal (10 * value + (b - 48))
    first empty range =
        let value_is : 10 * value + (b - 48) ≡ b - 48 = omega (arith, empty.1) in
        let glyph : 48 + (b - 48) ≡ b = omega (arith, range.0) in
        rw (empty.0, value_is, decimal_digit (b - 48) (omega (arith, range.1)), glyph) refl

    digits_of_zero : text ≡ decimal value → value ≡ 0 → digits ≡ 1
    digits_of_zero spelled zeroed =
        let text_is : text ≡ 48 ∷ [] = spelled ∙ ap decimal zeroed ∙ decimal_digit 0 (omega arith) in
        sym is.counted ∙ ap length text_is

    behind : text ≡ decimal value → (48 ≤ b) × (b ≤ 57) → (digits ≢ DIGITS) × (digits ≡ 1 → value ≡ 0 → ⊥) → (value ≡ 0 → digits ≡ 1)
        → text ++ b ∷ [] ≡ decimal (10 * value + (b - 48))
    behind spelled range more lone =
        elim (cases_lt 0 value) [
          | inl some ↦
              let few : 10 ^ digits ≤ 10 ^ 20 = pow-le-pow_right {n = 10} (omega arith) {i = digits} {j = 20} is.few in
              let step = decimal_step_wide (10 * value + (b - 48)) (omega arith) (omega (arith, is.small, range.1)) in
              let top : (10 * value + (b - 48)) / 10 ≡ value = omega (arith, range.1) in
              let low : 48 + (10 * value + (b - 48)) % 10 ≡ b = omega (arith, range.0, range.1) in
              rw spelled (sym (rw (top, low) at step))
          | inr none ↦
              let zeroed : value ≡ 0 = omega arith in
              absurd (more.1 (lone zeroed) zeroed)
        ]

-- two answers that are the same have the same parts
pub same_parts : {X Y : Type 0} (a c : X) (b d : Y) → ◌≡◌ {A = Option (X × Y)} (Some (a, b)) (Some (c, d)) → (a ≡ c) × (b ≡ d)
same_parts {X} {Y} a c b d same =
    let pairs : ◌≡◌ {A = X × Y} (a, b) (c, d) = cc in
    (ap (λ (p : X × Y). p.0) pairs, ap (λ (p : X × Y). p.1) pairs)

-- what was read of these bytes is a number of 20 digits at most, and the bytes after it
pub record IsNumber (bytes : List ℕ) (n : ℕ) (rest : List ℕ) : Type 0 where
  pub spelled : bytes ≡ decimal n ++ rest
  pub small : n < 10 ^ DIGITS

whole_is : (value digits : ℕ) (text bytes : List ℕ) (n : ℕ) (rest : List ℕ) → IsDigits value digits text → whole value digits bytes ≡ Some (n, rest)
    → IsNumber (text ++ bytes) n rest
whole_is value digits text bytes n rest is read =
    elim (cases_Bool (digits == 0)) [
      | inl none ↦ absurd (let other : ◌≡◌ {A = Option (ℕ × List ℕ)} None (Some (n, rest)) = rw none at read in cc)
      | inr some ↦
          let same : ◌≡◌ {A = Option (ℕ × List ℕ)} (Some (value, bytes)) (Some (n, rest)) = rw some at read in
          let parts = same_parts value n bytes rest same in
          let value_is : value ≡ n = parts.0 in
          let rest_is : bytes ≡ rest = parts.1 in
          let few : 10 ^ digits ≤ 10 ^ 20 = pow-le-pow_right {n = 10} (omega arith) {i = digits} {j = 20} is.few in
          let digits_some : digits ≢ 0 = eqb-false digits 0 some in
          let small : value < 10 ^ DIGITS = omega (arith, is.small) in
          record {
            spelled = rw (← value_is, ← rest_is) (ap (λ t. t ++ bytes) (is.some (omega arith)));
            small = rw (← value_is) small;
          }
    ]

digits_are : (bytes : List ℕ) (value digits : ℕ) (text : List ℕ) (n : ℕ) (rest : List ℕ) → IsDigits value digits text → digits_at value digits bytes ≡ Some (n, rest)
    → IsNumber (text ++ bytes) n rest
unfolding digits_at
digits_are [] value digits text n rest is read = whole_is value digits text [] n rest is read
digits_are (b ∷ bytes) value digits text n rest is read =
    elim (cases_Bool (is_ascii_digit b)) [
      | inl digit ↦ elim (cases_Bool (is_full value digits)) [
        | inl full ↦ absurd (let other : ◌≡◌ {A = Option (ℕ × List ℕ)} None (Some (n, rest)) = rw (digit, full) at read in cc)
        | inr free ↦
            let later : digits_at (10 * value + (b - 48)) (digits + 1) bytes ≡ Some (n, rest) = rw (digit, free) at read in
            let number = digits_are bytes (10 * value + (b - 48)) (digits + 1) (text ++ b ∷ []) n rest (next_digit value digits b text is digit free) later in
            record { spelled = sym (append_assoc text (b ∷ []) bytes) ∙ number.spelled; small = number.small }
      ]
      | inr other ↦
          let ended : whole value digits (b ∷ bytes) ≡ Some (n, rest) = rw other at read in
          whole_is value digits text (b ∷ bytes) n rest is ended
    ]

-- what is read is a number
pub number_read : (bytes : List ℕ) (n : ℕ) (rest : List ℕ) → digits_at 0 0 bytes ≡ Some (n, rest) → IsNumber bytes n rest
number_read bytes n rest read = digits_are bytes 0 0 [] n rest no_digits read

-- one step
pub digit_more : (value digits b : ℕ) (bytes : List ℕ) → is_ascii_digit b ≡ true → is_full value digits ≡ false
    → digits_at value digits (b ∷ bytes) ≡ digits_at (10 * value + (b - 48)) (digits + 1) bytes
unfolding digits_at
digit_more value digits b bytes digit free = rw (digit, free) refl

pub digit_past : (value digits b : ℕ) (bytes : List ℕ) → is_ascii_digit b ≡ true → is_full value digits ≡ true → digits_at value digits (b ∷ bytes) ≡ None
unfolding digits_at
digit_past value digits b bytes digit full = rw (digit, full) refl

pub digit_other : (value digits b : ℕ) (bytes : List ℕ) → is_ascii_digit b ≡ false → digits_at value digits (b ∷ bytes) ≡ whole value digits (b ∷ bytes)
unfolding digits_at
digit_other value digits b bytes other = rw other refl

pub digit_none : (value digits : ℕ) → digits_at value digits [] ≡ whole value digits []
unfolding digits_at
digit_none value digits = refl

-- the bytes begin with no digit
abbrev pub NoDigit : List ℕ → Type 0
NoDigit [] = Unit {0}
NoDigit (b ∷ bytes) = is_ascii_digit b ≡ false

-- the bytes that a loop has yet to read, by the first of them
pub past_front : (bytes : List ℕ) (value digits b : ℕ) → Some b ≡ slice_get bytes 0 → is_ascii_digit b ≡ true → is_full value digits ≡ true → digits_at value digits bytes ≡ None
past_front [] value digits b first digit full = cc
past_front (c ∷ bytes) value digits b first digit full =
    let same : b ≡ c = cc in
    digit_past value digits c bytes (ap is_ascii_digit (sym same) ∙ digit) full

pub more_front : (bytes : List ℕ) (value digits b : ℕ) → Some b ≡ slice_get bytes 0 → is_ascii_digit b ≡ true → is_full value digits ≡ false
    → digits_at value digits bytes ≡ digits_at (10 * value + (b - 48)) (digits + 1) (drop 1 bytes)
more_front [] value digits b first digit free = cc
more_front (c ∷ bytes) value digits b first digit free =
    let same : b ≡ c = cc in
    digit_more value digits c bytes (ap is_ascii_digit (sym same) ∙ digit) free ∙ ap (λ k. digits_at (10 * value + (k - 48)) (digits + 1) bytes) (sym same)

pub plain_front : (bytes : List ℕ) (b : ℕ) → Some b ≡ slice_get bytes 0 → is_ascii_digit b ≡ false → NoDigit bytes
plain_front [] b first other = tt
plain_front (c ∷ bytes) b first other = let same : b ≡ c = cc in ap is_ascii_digit (sym same) ∙ other

pub no_front : (bytes : List ℕ) → None ≡ slice_get bytes 0 → NoDigit bytes
no_front [] first = tt
no_front (c ∷ bytes) first = cc

pub ends_none : (bytes : List ℕ) (value digits : ℕ) → NoDigit bytes → digits ≡ 0 → digits_at value digits bytes ≡ None
ends_none [] value digits plain none = digit_none value digits ∙ rw none refl
ends_none (b ∷ bytes) value digits plain none = digit_other value digits b bytes plain ∙ rw none refl

pub ends : (n digits : ℕ) (rest : List ℕ) → (digits ≡ 0 → ⊥) → NoDigit rest → digits_at n digits rest ≡ Some (n, rest)
ends n digits [] some plain = digit_none n digits ∙ rw (ne_eqb digits 0 some) refl
ends n digits (b ∷ rest) some plain = digit_other n digits b rest plain ∙ rw (ne_eqb digits 0 some) refl

pub room_for_more : (value digits : ℕ) → is_full value digits ≡ false → digits ≤ DIGITS → digits + 1 ≤ DIGITS
room_for_more value digits free few = let more : digits ≢ DIGITS = grind (arith, nat_tests) in omega arith

-- the digits of a number
abbrev Reads : ℕ → List ℕ → Type 0
Reads n digits =
    length digits ≤ 20 → (0 < length digits) × ((bytes : List ℕ) → digits_at 0 0 (digits ++ bytes) ≡ digits_at n (length digits) bytes)

read_digits : (n : ℕ) → n < 10 ^ DIGITS → Reads n (decimal n)
read_digits n small = decimal_by_steps_wide Reads one next n (omega arith)
  where
    one : (k : ℕ) → k < 10 → Reads k ((48 + k) ∷ [])
    one k low short = (
      omega arith,
      λ rest.
          let digit : is_ascii_digit (48 + k) ≡ true = grind arith in
          let value : 10 * 0 + ((48 + k) - 48) ≡ k = omega arith in
          digit_more 0 0 (48 + k) rest digit refl ∙ ap (λ v. digits_at v 1 rest) value,
    )

    next : (k : ℕ) (digits : List ℕ) → 10 ≤ k → Reads (k / 10) digits → Reads k (digits ++ (48 + k % 10) ∷ [])
    next k digits big before short =
        let long : length (digits ++ (48 + k % 10) ∷ []) ≡ length digits + 1 = length_push digits (48 + k % 10) in
        let so_far = before (omega arith) in
        let digit : is_ascii_digit (48 + k % 10) ≡ true = grind arith in
        let free : is_full (k / 10) (length digits) ≡ false = grind (arith, nat_tests) in
        let value : 10 * (k / 10) + ((48 + k % 10) - 48) ≡ k = omega arith in (
          omega arith,
          λ rest.
              ap (digits_at 0 0) (append_assoc digits ((48 + k % 10) ∷ []) rest)
              ∙ so_far.1 ((48 + k % 10) ∷ rest)
              ∙ digit_more (k / 10) (length digits) (48 + k % 10) rest digit free
              ∙ ap (λ v. digits_at v (length digits + 1) rest) value
              ∙ ap (λ d. digits_at k d rest) (sym long),
        )

-- a number is read as it is
pub reads_number : (n : ℕ) (rest : List ℕ) → n < 10 ^ DIGITS → NoDigit rest → digits_at 0 0 (decimal n ++ rest) ≡ Some (n, rest)
reads_number n rest small plain =
    let reads = read_digits n small (length-decimal-le_wide 20 n (omega arith) small (omega arith)) in
    reads.1 rest ∙ ends n (length (decimal n)) rest (λ none. omega (arith, reads.0)) plain
