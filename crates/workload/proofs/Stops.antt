-- What one more byte does: the reader holds it too, or it brings a fault that holds whatever follows.
use Rattle.std.proofs.Common.{◌≡◌, ℕ, ◌+◌, ◌*◌, ◌-◌, ◌^◌, ◌<◌, ◌≤◌, true, false, List, [], ◌∷◌, ◌++◌, length, get_or}
use Rattle.std.proofs.Common.{take, Option, Some, None, Result, Ok, Err, refl, sym, ap, subst, ◌∙◌, inl, inr, arith, append_assoc, length-append}
use Rattle.std.specs.Prelude.{◌==◌, nat_lt}
use Rattle.std.specs.Char.{is_ascii_digit}
use Rattle.std.specs.Fmt.{decimal}
use Rattle.std.specs.List.{flat_map}
use Rattle.std.proofs.lemmas.Bool.{cases_Bool, ltb-true, ltb-false, eqb-true, eqb-false}
use Rattle.std.proofs.lemmas.List.{append-nil, length_push, take_more, take_all}
use Rattle.std.proofs.lemmas.List.Concat.{flat_map-append}
use Rattle.std.proofs.lemmas.List.Elements.{All-nil, All-push}
use Rattle.workload.specs.declared.error.WorkError.{WorkError}
use Rattle.workload.specs.declared.error.WorkError.TheVariants.{Form}
use Rattle.workload.specs.declared.form.TheConstants.{DIGITS, BLANK, NEWLINE}
use Rattle.workload.specs.declared.judge.Spot.{Spot}
use Rattle.workload.specs.declared.judge.Spot.TheVariants.{Word, Number}
use Rattle.workload.specs.Text.{line, blank_number, newline}
use Rattle.workload.specs.Faults.{LineForm, next_form, is_whole, IsFormed, IsLine, lines_text, IsMalformed, IsPast, IsFormless, IsLineFaultAfter}
use Rattle.workload.specs.Machine.{State, start, add, ended, turn, is_full, step_at, step, then_run, run, line_number}
use Rattle.workload.proofs.Runs.{adds, run_ok, run_err, run_none, run-append, line_run, adds_all, adds_some, adds_push}
use Rattle.workload.proofs.Kept.{IsDigits, next_digit, whole_digits, InNumber, Spelled, Between, Holds, lines_push, no_fault_behind}

-- after some lines came these bytes, and they are held, or have this fault whatever follows
abbrev pub After : List (List ℕ) → List ℕ → Result State WorkError → Type 0
After before text (Ok s) = Holds before s text
After before text (Err e) = (more : List ℕ) → IsLineFaultAfter before (text ++ more) e

-- a line in which a byte is refused is not of its form
malformed_by : (lines : List (List ℕ)) (part : List ℕ) (b : ℕ) (more : List ℕ) (s : State) → is_whole lines ≡ false → run part (start lines) ≡ Ok s
    → step s b ≡ Err (Form (length lines + 1)) → IsMalformed (next_form lines) (part ++ b ∷ more)
malformed_by lines part b more s open_ came stopped =
    λ numbers tail formed same.
    let stops : run (part ++ b ∷ more) (start lines) ≡ Err (Form (length lines + 1)) = run-append part (b ∷ more) (start lines) ∙ ap (then_run (run (b ∷ more))) came
    ∙ run_err s (Form (length lines + 1)) b more stopped in
    no_fault_behind lines (adds (next_form lines) (Some []) numbers) tail (sym (line_run numbers lines tail open_ formed) ∙ ap (λ t. run t (start lines)) (sym same) ∙ stops)

-- where the bytes are
spelled_with : (before lines : List (List ℕ)) (text part : List ℕ) (b : ℕ) (more : List ℕ) → text ≡ lines_text before lines ++ part
    → (text ++ b ∷ []) ++ more ≡ lines_text before lines ++ (part ++ b ∷ more)
spelled_with before lines text part b more whole =
    append_assoc text (b ∷ []) more ∙ ap (λ t. t ++ b ∷ more) whole ∙ append_assoc (lines_text before lines) part (b ∷ more)

-- a byte that is refused
formless : (before : List (List ℕ)) (s : State) (text : List ℕ) (b : ℕ) → Holds before s text → step s b ≡ Err (Form (line_number s)) → After before (text ++ b ∷ []) (step s b)
formless before s text b h stopped =
    subst (After before (text ++ b ∷ [])) (sym stopped) (λ more. record {
      lines = h.lines;
      rest = h.part ++ b ∷ more;
      good = h.good;
      spelled = spelled_with before h.lines text h.part b more h.whole;
      fault = subst (λ l. IsFormless l (h.part ++ b ∷ more)) h.lines_are (fault more);
      numbered = ap (λ (l : List (List ℕ)). length l + 1) h.lines_are;
    })
  where
    fault : (more : List ℕ) → IsFormless s.lines (h.part ++ b ∷ more)
    fault more =
        elim (cases_Bool (is_whole s.lines)) [
          | inl whole ↦ inr (whole, omega (arith, length-append h.part (b ∷ more)))
          | inr open_ ↦ inl (open_, malformed_by s.lines h.part b more s open_ h.came stopped)
        ]

-- a byte within a line
stays : (before : List (List ℕ)) (s t : State) (text : List ℕ) (b : ℕ) (h : Holds before s text) → step s b ≡ Ok t → t.lines ≡ s.lines → t.form ≡ s.form
    → Spelled t.form t.spot t.left t.row (h.part ++ b ∷ [])
    → After before (text ++ b ∷ []) (step s b)
stays before s t text b h stepped lines form spelled =
    subst (After before (text ++ b ∷ [])) (sym stepped) (record {
      lines = h.lines;
      part = h.part ++ b ∷ [];
      lines_are = lines ∙ h.lines_are;
      form_is = form ∙ h.form_is ∙ ap next_form (sym lines);
      good = h.good;
      whole = ap (λ t. t ++ b ∷ []) h.whole ∙ append_assoc (lines_text before h.lines) h.part (b ∷ []);
      spelled = spelled;
      came = ap (λ l. run (h.part ++ b ∷ []) (start l)) lines ∙ run-append h.part (b ∷ []) (start s.lines) ∙ ap (then_run (run (b ∷ []))) h.came ∙ run_ok s t b [] stepped
          ∙ run_none t;
    })

-- the byte that ends a line
line_ends : (before : List (List ℕ)) (s : State) (text : List ℕ) (b : ℕ) (row : Option (List ℕ)) (numbers : List ℕ) (h : Holds before s text) → is_whole s.lines ≡ false
    → h.part ++ b ∷ [] ≡ line s.form.word numbers → row ≡ adds s.form (Some []) numbers → IsFormed s.form numbers
    → After before (text ++ b ∷ []) (ended s.lines row)
unfolding ended
line_ends before s text b None numbers h open_ part_is kept formed =
    λ more. record {
      lines = h.lines;
      rest = h.part ++ b ∷ more;
      good = h.good;
      spelled = spelled_with before h.lines text h.part b more h.whole;
      fault = subst (λ (l : List (List ℕ)). (is_whole l ≡ false) × IsPast (next_form l) (h.part ++ b ∷ more)) h.lines_are (
        open_,
        subst (λ f. IsPast f (h.part ++ b ∷ more)) h.form_is (record {
          numbers = numbers;
          tail = more;
          formed = formed;
          spelled = sym (append_assoc h.part (b ∷ []) more) ∙ ap (λ t. t ++ more) part_is;
          past = λ ranged. let all : adds s.form (Some []) numbers ≡ Some numbers = adds_all numbers [] s.form ranged in cc;
        }),
      );
      numbered = ap (λ (l : List (List ℕ)). length l + 1) h.lines_are;
    }
line_ends before s text b (Some row) numbers h open_ part_is kept formed =
    let some = adds_some numbers [] row s.form (sym kept) in
    let is : IsLine s.form numbers = record { formed = formed; ranged = some.1 } in
    let here : IsLine (next_form (before ++ h.lines)) numbers = subst (λ (l : List (List ℕ)). IsLine (next_form l) numbers) h.lines_are
    (subst (λ f. IsLine f numbers) h.form_is is) in
    let pushed = lines_push before h.lines numbers h.good (subst (λ l. is_whole l ≡ false) h.lines_are open_) here in
    record {
      lines = h.lines ++ numbers ∷ [];
      part = [];
      lines_are = ap (λ r. s.lines ++ r ∷ []) some.0 ∙ ap (λ l. l ++ numbers ∷ []) h.lines_are ∙ append_assoc before h.lines (numbers ∷ []);
      form_is = refl;
      good = pushed.0;
      whole =
          ap (λ t. t ++ b ∷ []) h.whole
          ∙ append_assoc (lines_text before h.lines) h.part (b ∷ [])
          ∙ ap (λ t. lines_text before h.lines ++ t) (part_is ∙ ap (λ f. line f.word numbers) (h.form_is ∙ ap next_form h.lines_are))
          ∙ sym pushed.1
          ∙ sym (append-nil (lines_text before (h.lines ++ numbers ∷ [])));
      spelled = (omega arith, refl, refl, refl);
      came = run_none (start (s.lines ++ row ∷ []));
    }

-- the tests between two numbers
turn_ends : (s : State) (b : ℕ) → (s.left == 0) ≡ true → (b == NEWLINE) ≡ true → turn s b ≡ ended s.lines s.row
unfolding turn
turn_ends s b last newline_came = rw (last, newline_came) refl

turn_unended : (s : State) (b : ℕ) → (s.left == 0) ≡ true → (b == NEWLINE) ≡ false → turn s b ≡ Err (Form (line_number s))
unfolding turn
turn_unended s b last other = rw (last, other) refl

turn_begins : (s : State) (b : ℕ) → (s.left == 0) ≡ false → (b == BLANK) ≡ true → turn s b ≡ Ok (record s { spot = Number 0 0; left = s.left - 1 })
unfolding turn
turn_begins s b more blank_came = rw (more, blank_came) refl

turn_unbegun : (s : State) (b : ℕ) → (s.left == 0) ≡ false → (b == BLANK) ≡ false → turn s b ≡ Err (Form (line_number s))
unfolding turn
turn_unbegun s b more other = rw (more, other) refl

no_digits : IsDigits 0 0 []
no_digits = record { counted = refl; few = omega arith; small = omega arith; none = λ _. (refl, refl); some = λ some. absurd (omega arith) }

-- a byte between two numbers
turned : (before : List (List ℕ)) (s : State) (text : List ℕ) (b : ℕ) (row : Option (List ℕ)) (h : Holds before s text) → is_whole s.lines ≡ false
    → Between s.form s.left row h.part → step s b ≡ turn (record s { row = row }) b → After before (text ++ b ∷ []) (step s b)
turned before s text b row h open_ at stepped =
    elim (cases_Bool (s.left == 0)) [
      | inl last ↦ elim (cases_Bool (b == NEWLINE)) [
        | inl newline_came ↦
            let none_left : s.left ≡ 0 = eqb-true s.left 0 last in
            let is : b ≡ 10 = eqb-true b NEWLINE newline_came in
            subst (After before (text ++ b ∷ [])) (sym (stepped ∙ turn_ends (record s { row = row }) b last newline_came))
            (line_ends before s text b row at.numbers h open_
            (ap (λ c. h.part ++ c ∷ []) is ∙ ap (λ t. t ++ newline) at.spelled ∙ append_assoc s.form.word (flat_map blank_number at.numbers) newline) at.kept
            (record { counted = omega (arith, at.counted); short = at.short }))
        | inr other ↦ formless before s text b h (stepped ∙ turn_unended (record s { row = row }) b last other)
      ]
      | inr more ↦ elim (cases_Bool (b == BLANK)) [
        | inl blank_came ↦
            let some_left : s.left ≡ 0 → ⊥ = eqb-false s.left 0 more in
            let is : b ≡ 32 = eqb-true b BLANK blank_came in
            stays before s (record s { row = row; spot = Number 0 0; left = s.left - 1 }) text b h (stepped ∙ turn_begins (record s { row = row }) b more blank_came) refl refl
            (record {
              numbers = at.numbers;
              text = [];
              digits_are = no_digits;
              spelled = ap (λ c. h.part ++ c ∷ []) is ∙ ap (λ t. t ++ 32 ∷ []) at.spelled ∙ append_assoc s.form.word (flat_map blank_number at.numbers) (32 ∷ []);
              kept = at.kept;
              short = at.short;
              counted = omega (arith, at.counted);
            })
        | inr other ↦ formless before s text b h (stepped ∙ turn_unbegun (record s { row = row }) b more other)
      ]
    ]

-- the tests in a word, and in a number
word_goes_on : (at : ℕ) (s : State) (b : ℕ) → nat_lt at (length s.form.word) ≡ true → (b == get_or s.form.word at 0) ≡ true
    → step_at (Word at) s b ≡ Ok (record s { spot = Word (at + 1) })
unfolding step_at
word_goes_on at s b inside same = rw (inside, same) refl

word_differs : (at : ℕ) (s : State) (b : ℕ) → nat_lt at (length s.form.word) ≡ true → (b == get_or s.form.word at 0) ≡ false → step_at (Word at) s b ≡ Err (Form (line_number s))
unfolding step_at
word_differs at s b inside other = rw (inside, other) refl

word_is_over : (at : ℕ) (s : State) (b : ℕ) → nat_lt at (length s.form.word) ≡ false → step_at (Word at) s b ≡ turn s b
unfolding step_at
word_is_over at s b over = rw over refl

number_is_full : (value digits : ℕ) (s : State) (b : ℕ) → is_ascii_digit b ≡ true → is_full value digits ≡ true → step_at (Number value digits) s b ≡ Err (Form (line_number s))
unfolding step_at
number_is_full value digits s b digit full = rw (digit, full) refl

number_goes_on : (value digits : ℕ) (s : State) (b : ℕ) → is_ascii_digit b ≡ true → is_full value digits ≡ false
    → step_at (Number value digits) s b ≡ Ok (record s { spot = Number (10 * value + (b - 48)) (digits + 1) })
unfolding step_at
number_goes_on value digits s b digit free = rw (digit, free) refl

number_is_missing : (value digits : ℕ) (s : State) (b : ℕ) → is_ascii_digit b ≡ false → (digits == 0) ≡ true → step_at (Number value digits) s b ≡ Err (Form (line_number s))
unfolding step_at
number_is_missing value digits s b other none = rw (other, none) refl

number_is_over : (value digits : ℕ) (s : State) (b : ℕ) → is_ascii_digit b ≡ false → (digits == 0) ≡ false
    → step_at (Number value digits) s b ≡ turn (record s { row = add s.form s.row value }) b
unfolding step_at
number_is_over value digits s b other some = rw (other, some) refl

-- one more digit of a number
longer : (form : LineForm) (value digits left : ℕ) (row : Option (List ℕ)) (part : List ℕ) (b : ℕ) → InNumber form value digits left row part → is_ascii_digit b ≡ true
    → is_full value digits ≡ false
    → InNumber form (10 * value + (b - 48)) (digits + 1) left row (part ++ b ∷ [])
longer form value digits left row part b is digit free =
    record {
      numbers = is.numbers;
      text = is.text ++ b ∷ [];
      digits_are = next_digit value digits b is.text is.digits_are digit free;
      spelled =
          ap (λ t. t ++ b ∷ []) is.spelled
          ∙ append_assoc form.word (flat_map blank_number is.numbers ++ 32 ∷ is.text) (b ∷ [])
          ∙ ap (λ t. form.word ++ t) (append_assoc (flat_map blank_number is.numbers) (32 ∷ is.text) (b ∷ []));
      kept = is.kept;
      short = is.short;
      counted = is.counted;
    }

-- the end of a number
over : (form : LineForm) (value digits left : ℕ) (row : Option (List ℕ)) (part : List ℕ) → InNumber form value digits left row part → (digits == 0) ≡ false
    → Between form left (add form row value) part
over form value digits left row part is some =
    let ends = whole_digits value digits is.text is.digits_are (eqb-false digits 0 some) in
    record {
      numbers = is.numbers ++ value ∷ [];
      spelled =
          is.spelled
          ∙ ap (λ t. form.word ++ (flat_map blank_number is.numbers ++ 32 ∷ t)) (ends.1 ∙ sym (append-nil (decimal value)))
          ∙ ap (λ t. form.word ++ t) (sym (flat_map-append blank_number is.numbers (value ∷ [])));
      kept = ap (λ r. add form r value) is.kept ∙ sym (adds_push is.numbers value (Some []) form);
      short = All-push (λ (n : ℕ). n < 10 ^ DIGITS) is.numbers value is.short ends.0;
      counted = omega (arith, length_push is.numbers value, is.counted);
    }

after_spot : (spot : Spot) (before : List (List ℕ)) (s : State) (text : List ℕ) (b : ℕ) (h : Holds before s text) → s.spot ≡ spot → is_whole s.lines ≡ false
    → step s b ≡ step_at spot s b → After before (text ++ b ∷ []) (step s b)
after_spot (Word at) before s text b h spot_is open_ stepped =
    let here : Spelled s.form (Word at) s.left s.row h.part = subst (λ p. Spelled s.form p s.left s.row h.part) spot_is h.spelled in
    elim (cases_Bool (nat_lt at (length s.form.word))) [
      | inl inside ↦ elim (cases_Bool (b == get_or s.form.word at 0)) [
        | inl same ↦
            let below : at < length s.form.word = ltb-true at (length s.form.word) inside in
            let is : b ≡ get_or s.form.word at 0 = eqb-true b (get_or s.form.word at 0) same in
            stays before s (record s { spot = Word (at + 1) }) text b h (stepped ∙ word_goes_on at s b inside same) refl refl
            (omega arith, ap (λ t. t ++ b ∷ []) here.1 ∙ ap (λ c. take at s.form.word ++ c ∷ []) is ∙ sym (take_more s.form.word at 0 below), here.2, here.3)
        | inr other ↦ formless before s text b h (stepped ∙ word_differs at s b inside other)
      ]
      | inr over_ ↦
          let above : length s.form.word ≤ at = ltb-false at (length s.form.word) over_ in
          turned before s text b s.row h open_ (record {
            numbers = [];
            spelled = here.1 ∙ take_all at s.form.word above ∙ sym (append-nil s.form.word);
            kept = here.3;
            short = All-nil (λ (n : ℕ). n < 10 ^ DIGITS);
            counted = omega (arith, here.2);
          }) (stepped ∙ word_is_over at s b over_)
    ]
after_spot (Number value digits) before s text b h spot_is open_ stepped =
    let here : Spelled s.form (Number value digits) s.left s.row h.part = subst (λ p. Spelled s.form p s.left s.row h.part) spot_is h.spelled in
    elim (cases_Bool (is_ascii_digit b)) [
      | inl digit ↦ elim (cases_Bool (is_full value digits)) [
        | inl full ↦ formless before s text b h (stepped ∙ number_is_full value digits s b digit full)
        | inr free ↦ stays before s (record s { spot = Number (10 * value + (b - 48)) (digits + 1) }) text b h (stepped ∙ number_goes_on value digits s b digit free) refl refl
            (longer s.form value digits s.left s.row h.part b here digit free)
      ]
      | inr other ↦ elim (cases_Bool (digits == 0)) [
        | inl none ↦ formless before s text b h (stepped ∙ number_is_missing value digits s b other none)
        | inr some ↦ turned before s text b (add s.form s.row value) h open_ (over s.form value digits s.left s.row h.part here some)
            (stepped ∙ number_is_over value digits s b other some)
      ]
    ]

pub step_whole : (s : State) (b : ℕ) → is_whole s.lines ≡ true → step s b ≡ Err (Form (line_number s))
unfolding step
step_whole s b whole = rw whole refl

step_open : (s : State) (b : ℕ) → is_whole s.lines ≡ false → step s b ≡ step_at s.spot s b
unfolding step
step_open s b open_ = rw open_ refl

pub after_step : (before : List (List ℕ)) (s : State) (text : List ℕ) (b : ℕ) → Holds before s text → After before (text ++ b ∷ []) (step s b)
after_step before s text b h =
    elim (cases_Bool (is_whole s.lines)) [
      | inl whole ↦ formless before s text b h (step_whole s b whole)
      | inr open_ ↦ after_spot s.spot before s text b h refl open_ (step_open s b open_)
    ]

-- bytes that come after others
pub after_run : (bytes : List ℕ) (before : List (List ℕ)) (s : State) (text : List ℕ) → Holds before s text → After before (text ++ bytes) (run bytes s)
unfolding run
after_run [] before s text h = subst (λ t. Holds before s t) (sym (append-nil text)) h
after_run (b ∷ bytes) before s text h =
    let one : After before (text ++ b ∷ []) (step s b) = after_step before s text b h in
    let split : (text ++ b ∷ []) ++ bytes ≡ text ++ b ∷ bytes = append_assoc text (b ∷ []) bytes in
    subst (λ t. After before t (then_run (run bytes) (step s b))) split
    (elim (step s b) as (λ r. After before (text ++ b ∷ []) r → After before ((text ++ b ∷ []) ++ bytes) (then_run (run bytes) r)) [
      | Ok t ↦ λ held. after_run bytes before t (text ++ b ∷ []) held
      | Err e ↦ λ fault more. subst (λ t. IsLineFaultAfter before t e) (sym (append_assoc (text ++ b ∷ []) bytes more)) (fault (bytes ++ more))
    ] one)
