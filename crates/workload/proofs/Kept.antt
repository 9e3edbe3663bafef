-- What a reader knows of the bytes that it went through, and which fault holds where it stops.
use Rattle.std.proofs.Common.{◌≡◌, ◌≢◌, ℕ, ◌+◌, ◌*◌, ◌-◌, ◌/◌, ◌%◌, ◌^◌, ◌<◌, ◌≤◌, Bool, true, false, cond, List, [], ◌∷◌, ◌++◌}
use Rattle.std.proofs.Common.{length, get_or, take, Option, Some, None, Result, Ok, Err, refl, sym, ap, subst, ◌∙◌, inl, inr, arith, append_assoc, add-one}
use Rattle.std.specs.Prelude.{All, ◌==◌, nat_lt}
use Rattle.std.specs.Char.{is_ascii_digit}
use Rattle.std.specs.Fmt.{decimal}
use Rattle.std.specs.List.{flat_map}
use Rattle.std.proofs.lemmas.Bool.{cases_lt}
use Rattle.std.proofs.lemmas.Bool.Decides.{nat_tests}
use Rattle.std.proofs.lemmas.Fmt.{decimal_digit, decimal_step}
use Rattle.std.proofs.lemmas.List.{append-nil, length_push}
use Rattle.std.proofs.Math.Nat.{pow-le-pow_right, pow-suc}
use Rattle.workload.specs.declared.error.WorkError.{WorkError}
use Rattle.workload.specs.declared.error.WorkError.TheVariants.{Form, Limit, Long, Read, OutOfMemory}
use Rattle.workload.specs.declared.form.TheConstants.{DIGITS, BLANK, NEWLINE}
use Rattle.workload.specs.declared.judge.Spot.{Spot}
use Rattle.workload.specs.declared.judge.Spot.TheVariants.{Word, Number}
use Rattle.workload.specs.Text.{line, blank_number}
use Rattle.workload.specs.Faults.{LineForm, next_form, is_whole, IsLine, AreLines, lines_text}
use Rattle.workload.specs.Machine.{State, start, add, ended, turn, is_full, step_at, step, then_run, run, line_number}
use Rattle.workload.proofs.Runs.{adds, run_none}

-- the digits so far are those of the value
pub record IsDigits (value digits : ℕ) (text : List ℕ) : Type 0 where
  pub counted : length text ≡ digits
  pub few : digits ≤ DIGITS
  pub small : value < 10 ^ digits
  pub none : digits ≡ 0 → (text ≡ []) × (value ≡ 0)
  pub some : 0 < digits → text ≡ decimal value

more_small : (value digits b : ℕ) → value < 10 ^ digits → b ≤ 57 → 48 ≤ b → 10 * value + (b - 48) < 10 ^ (digits + 1)
more_small value digits b small high low =
    let power : 10 ^ (digits + 1) ≡ 10 ^ digits * 10 = pow-add_one digits in
    omega arith
  where
    pow-add_one : (n : ℕ) → 10 ^ (n + 1) ≡ 10 ^ n * 10
    pow-add_one n = rw (add-one, pow-suc) refl

pub next_digit : (value digits b : ℕ) (text : List ℕ) → IsDigits value digits text → is_ascii_digit b ≡ true → is_full value digits ≡ false
    → IsDigits (10 * value + (b - 48)) (digits + 1) (text ++ b ∷ [])
next_digit value digits b text is digit free =
    let range : (48 ≤ b) × (b ≤ 57) = grind (arith, nat_tests) in
    let more : (digits ≢ DIGITS) × (digits ≡ 1 → value ≡ 0 → ⊥) = grind (arith, nat_tests) in
    let next : ℕ = 10 * value + (b - 48) in
    record {
      counted = omega (arith, length_push text b, is.counted);
      few = omega (arith, is.few, more.0);
      small = more_small value digits b is.small range.1 range.0;
      none = λ e. absurd (omega arith);
      some = λ _. elim (cases_lt 0 digits) [
        | inl some ↦ behind (is.some some) range more (digits_of_zero (is.some some))
        | inr none ↦ first (is.none (omega arith)) range
      ];
    }
  where
    first : (text ≡ []) × (value ≡ 0) → (48 ≤ b) × (b ≤ 57) → text ++ b ∷ [] ≡ decimal (10 * value + (b - 48))
    first empty range =
        let value_is : 10 * value + (b - 48) ≡ b - 48 = omega (arith, empty.1) in
        let glyph : 48 + (b - 48) ≡ b = omega (arith, range.0) in
        rw (empty.0, value_is, decimal_digit (b - 48) (omega (arith, range.1)), glyph) refl

    digits_of_zero : text ≡ decimal value → value ≡ 0 → digits ≡ 1
    digits_of_zero spelled zeroed =
        let text_is : text ≡ 48 ∷ [] = spelled ∙ ap decimal zeroed ∙ decimal_digit 0 (omega arith) in
        sym is.counted ∙ ap length text_is

    behind : text ≡ decimal value → (48 ≤ b) × (b ≤ 57) → (digits ≢ DIGITS) × (digits ≡ 1 → value ≡ 0 → ⊥) → (value ≡ 0 → digits ≡ 1)
        → text ++ b ∷ [] ≡ decimal (10 * value + (b - 48))
    behind spelled range more lone =
        elim (cases_lt 0 value) [
          | inl some ↦
              let few : 10 ^ digits ≤ 10 ^ 10 = pow-le-pow_right {n = 10} (omega arith) {i = digits} {j = 10} is.few in
              let step = decimal_step (10 * value + (b - 48)) (omega arith) (omega (arith, is.small, range.1)) in
              let top : (10 * value + (b - 48)) / 10 ≡ value = omega (arith, range.1) in
              let low : 48 + (10 * value + (b - 48)) % 10 ≡ b = omega (arith, range.0, range.1) in
              rw spelled (sym (rw (top, low) at step))
          | inr none ↦
              let zeroed : value ≡ 0 = omega arith in
              absurd (more.1 (lone zeroed) zeroed)
        ]

-- a number that is complete
pub whole_digits : (value digits : ℕ) (text : List ℕ) → IsDigits value digits text → digits ≢ 0 → (value < 10 ^ DIGITS) × (text ≡ decimal value)
whole_digits value digits text is some =
    let few : 10 ^ digits ≤ 10 ^ 10 = pow-le-pow_right {n = 10} (omega arith) {i = digits} {j = 10} is.few in
    (omega (arith, is.small), is.some (omega arith))

-- the part of a line up to a number in it
pub record InNumber (form : LineForm) (value digits left : ℕ) (row : Option (List ℕ)) (part : List ℕ) : Type 0 where
  pub numbers : List ℕ
  pub text : List ℕ
  pub digits_are : IsDigits value digits text
  pub spelled : part ≡ form.word ++ (flat_map blank_number numbers ++ 32 ∷ text)
  pub kept : row ≡ adds form (Some []) numbers
  pub short : All (λ n. n < 10 ^ DIGITS) numbers
  pub counted : length numbers + 1 + left ≡ form.count

-- the part of a line up to a spot
abbrev pub Spelled : LineForm → Spot → ℕ → Option (List ℕ) → List ℕ → Type 0
Spelled form (Word at) left row part =
    (at ≤ length form.word) × (part ≡ take at form.word) × (left ≡ form.count) × (row ≡ Some [])
Spelled form (Number value digits) left row part = InNumber form value digits left row part

-- the part of a line up to the end of its word or of a number
pub record Between (form : LineForm) (left : ℕ) (row : Option (List ℕ)) (part : List ℕ) : Type 0 where
  pub numbers : List ℕ
  pub spelled : part ≡ form.word ++ flat_map blank_number numbers
  pub kept : row ≡ adds form (Some []) numbers
  pub short : All (λ n. n < 10 ^ DIGITS) numbers
  pub counted : length numbers + left ≡ form.count

-- after some lines came these bytes
pub record Holds (before : List (List ℕ)) (s : State) (text : List ℕ) : Type 0 where
  pub lines : List (List ℕ)
  pub part : List ℕ
  pub lines_are : s.lines ≡ before ++ lines
  pub form_is : s.form ≡ next_form s.lines
  pub good : AreLines before lines
  pub whole : text ≡ lines_text before lines ++ part
  pub spelled : Spelled s.form s.spot s.left s.row part
  pub came : run part (start s.lines) ≡ Ok s

-- a reader at the start of a line
pub holds_start : (before : List (List ℕ)) → Holds before (start before) []
holds_start before =
    record {
      lines = [];
      part = [];
      lines_are = sym (append-nil before);
      form_is = refl;
      good = tt;
      whole = refl;
      spelled = (omega arith, refl, refl, refl);
      came = run_none (start before);
    }

-- one more line
pub lines_push : (before lines : List (List ℕ)) (numbers : List ℕ) → AreLines before lines → is_whole (before ++ lines) ≡ false → IsLine (next_form (before ++ lines)) numbers
    → AreLines before (lines ++ numbers ∷ []) × (lines_text before (lines ++ numbers ∷ []) ≡ lines_text before lines ++ line (next_form (before ++ lines)).word numbers)
lines_push before [] numbers good more is =
    let same : before ++ [] ≡ before = append-nil before in (
      (subst (λ l. is_whole l ≡ false) same more, subst (λ l. IsLine (next_form l) numbers) same is, tt),
      append-nil (line (next_form before).word numbers) ∙ ap (λ l. line (next_form l).word numbers) (sym same),
    )
lines_push before (m ∷ lines) numbers (open_, here, good) more is =
    let same : before ++ (m ∷ lines) ≡ (before ++ m ∷ []) ++ lines = sym (append_assoc before (m ∷ []) lines) in
    let later = lines_push (before ++ m ∷ []) lines numbers good (subst (λ l. is_whole l ≡ false) same more) (subst (λ l. IsLine (next_form l) numbers) same is) in (
      (open_, here, later.0),
      ap (λ t. line (next_form before).word m ++ t) later.1
          ∙ sym (append_assoc (line (next_form before).word m) (lines_text (before ++ m ∷ []) lines) (line (next_form ((before ++ m ∷ []) ++ lines)).word numbers))
          ∙ ap (λ l. (line (next_form before).word m ++ lines_text (before ++ m ∷ []) lines) ++ line (next_form l).word numbers) (sym same),
    )

-- a test decides between two values
pub by_test : {X : Type 0} (P : X → Type 0) (b : Bool) (x y : X) → P x → P y → P (cond b x y)
by_test P true x y here there = here
by_test P false x y here there = there

-- a byte that is refused
abbrev refusal : State → Result State WorkError
refusal s = Err (Form (line_number s))

-- lines are never taken back, and a fault is that of the line after them
abbrev StepLines : State → Result State WorkError → Type 0
StepLines s (Ok t) = length s.lines ≤ length t.lines
StepLines s (Err (Form n)) = n ≡ length s.lines + 1
StepLines s (Err (Limit n)) = n ≡ length s.lines + 1
StepLines s (Err _) = ⊥

record Steps (s : State) (r : Result State WorkError) : Type 0 where
  told : StepLines s r

ended_lines : (s : State) (row : Option (List ℕ)) → Steps s (ended s.lines row)
unfolding ended
ended_lines s None = record { told = refl }
ended_lines s (Some row) = record { told = omega (arith, length_push s.lines row) }

refused : (s : State) → Steps s (refusal s)
refused s = record { told = refl }

turn_lines : (s : State) (row : Option (List ℕ)) (b : ℕ) → Steps s (turn (record s { row = row }) b)
unfolding turn
turn_lines s row b =
    let newline_next : Result State WorkError = cond (b == NEWLINE) (ended s.lines row) (refusal s) in
    let begun : Result State WorkError = Ok (record s { row = row; spot = Number 0 0; left = s.left - 1 }) in
    by_test (Steps s) (s.left == 0) newline_next (cond (b == BLANK) begun (refusal s))
    (by_test (Steps s) (b == NEWLINE) (ended s.lines row) (refusal s) (ended_lines s row) (refused s))
    (by_test (Steps s) (b == BLANK) begun (refusal s) (record { told = omega arith }) (refused s))

at_lines : (spot : Spot) (s : State) (b : ℕ) → Steps s (step_at spot s b)
unfolding step_at
at_lines (Word at) s b =
    let next : Result State WorkError = Ok (record s { spot = Word (at + 1) }) in
    by_test (Steps s) (nat_lt at (length s.form.word)) (cond (b == get_or s.form.word at 0) next (refusal s)) (turn s b)
    (by_test (Steps s) (b == get_or s.form.word at 0) next (refusal s) (record { told = omega arith }) (refused s))
    (turn_lines s s.row b)
at_lines (Number value digits) s b =
    let next : Result State WorkError = Ok (record s { spot = Number (10 * value + (b - 48)) (digits + 1) }) in
    let turned : Result State WorkError = turn (record s { row = add s.form s.row value }) b in
    by_test (Steps s) (is_ascii_digit b) (cond (is_full value digits) (refusal s) next) (cond (digits == 0) (refusal s) turned)
    (by_test (Steps s) (is_full value digits) (refusal s) next (refused s) (record { told = omega arith }))
    (by_test (Steps s) (digits == 0) (refusal s) turned (refused s) (turn_lines s (add s.form s.row value) b))

step_lines : (s : State) (b : ℕ) → Steps s (step s b)
unfolding step
step_lines s b = by_test (Steps s) (is_whole s.lines) (refusal s) (step_at s.spot s b) (refused s) (at_lines s.spot s b)

-- a fault of bytes is that of no line before them
abbrev RunLines : State → Result State WorkError → Type 0
RunLines s (Ok t) = length s.lines ≤ length t.lines
RunLines s (Err (Form n)) = length s.lines + 1 ≤ n
RunLines s (Err (Limit n)) = length s.lines + 1 ≤ n
RunLines s (Err _) = ⊥

less_lines : (s t : State) (r : Result State WorkError) → length s.lines ≤ length t.lines → RunLines t r → RunLines s r
less_lines s t (Ok u) fewer told = omega arith
less_lines s t (Err (Form n)) fewer told = omega arith
less_lines s t (Err (Limit n)) fewer told = omega arith
less_lines s t (Err Long) fewer told = told
less_lines s t (Err Read) fewer told = told
less_lines s t (Err OutOfMemory) fewer told = told

stopped_lines : (s : State) (e : WorkError) → StepLines s (Err e) → RunLines s (Err e)
stopped_lines s (Form n) told = omega arith
stopped_lines s (Limit n) told = omega arith
stopped_lines s Long told = told
stopped_lines s Read told = told
stopped_lines s OutOfMemory told = told

pub run_lines : (bytes : List ℕ) (s : State) → RunLines s (run bytes s)
unfolding run
run_lines [] s = omega arith
run_lines (b ∷ bytes) s =
    let told : StepLines s (step s b) = (step_lines s b).told in
    elim (step s b) as (λ r. StepLines s r → RunLines s (then_run (run bytes) r)) [
      | Ok t ↦ λ fewer. less_lines s t (run bytes t) fewer (run_lines bytes t)
      | Err e ↦ λ stopped. stopped_lines s e stopped
    ] told

-- after the end of a line no fault of this line is reported, and its part is over
pub no_fault_behind : (lines : List (List ℕ)) (row : Option (List ℕ)) (bytes : List ℕ) → then_run (run bytes) (ended lines row) ≡ Err (Form (length lines + 1)) → ⊥
unfolding ended
no_fault_behind lines None bytes told = cc
no_fault_behind lines (Some row) bytes told =
    let later : RunLines (start (lines ++ row ∷ [])) (Err (Form (length lines + 1))) = subst (RunLines (start (lines ++ row ∷ []))) told
    (run_lines bytes (start (lines ++ row ∷ []))) in
    omega (arith, length_push lines row)

pub no_part_behind : (lines : List (List ℕ)) (row : Option (List ℕ)) (bytes : List ℕ) (s : State) → then_run (run bytes) (ended lines row) ≡ Ok s → s.lines ≡ lines → ⊥
unfolding ended
no_part_behind lines None bytes s told same = cc
no_part_behind lines (Some row) bytes s told same =
    let later : RunLines (start (lines ++ row ∷ [])) (Ok s) = subst (RunLines (start (lines ++ row ∷ []))) told (run_lines bytes (start (lines ++ row ∷ []))) in
    omega (arith, length_push lines row, ap length same)
