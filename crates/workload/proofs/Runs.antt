-- How a reader goes through a line that is of its form.
use Rattle.std.proofs.Common.{◌≡◌, ℕ, ◌+◌, ◌*◌, ◌-◌, ◌/◌, ◌%◌, ◌^◌, ◌<◌, ◌≤◌, true, false, List, [], ◌∷◌, ◌++◌, length, get_or}
use Rattle.std.proofs.Common.{drop, Option, Some, None, Ok, Err, refl, sym, ap, ◌∙◌, inl, inr, arith, append_assoc, length-append}
use Rattle.std.specs.Prelude.{All, IsTrue, slice_get}
use Rattle.std.specs.Char.{is_ascii_digit}
use Rattle.std.specs.Fmt.{decimal}
use Rattle.std.specs.List.{flat_map}
use Rattle.std.proofs.lemmas.Bool.{cases_Bool, lt-ltb, le-ltb, eq-eqb, ne_eqb}
use Rattle.std.proofs.lemmas.Bool.Decides.{nat_tests}
use Rattle.std.proofs.lemmas.Fmt.{decimal_by_steps, decimal_nonempty, length-decimal-le}
use Rattle.std.proofs.lemmas.List.{append-nil, length_push, get_or-append-add}
use Rattle.std.proofs.lemmas.List.Elements.{All-cons, All-head, All-nil, All-tail}
use Rattle.workload.specs.declared.error.WorkError.{WorkError}
use Rattle.workload.specs.declared.form.TheConstants.{DIGITS}
use Rattle.workload.specs.declared.judge.Spot.{Spot}
use Rattle.workload.specs.declared.judge.Spot.TheVariants.{Word, Number}
use Rattle.workload.specs.Text.{line, blank_number, newline}
use Rattle.workload.specs.Faults.{LineForm, next_form, is_whole, in_range, IsFormed, AreLines, lines_text}
use Rattle.workload.specs.Machine.{State, start, add, ended, turn, is_full, step_at, step, then_run, run, Reaches}

abbrev pub state : List (List ℕ) → LineForm → Spot → ℕ → Option (List ℕ) → State
state lines form spot left row = record { lines = lines; form = form; spot = spot; left = left; row = row }

-- several numbers more
abbrev pub adds : LineForm → Option (List ℕ) → List ℕ → Option (List ℕ)
adds form row [] = row
adds form row (n ∷ numbers) = adds form (add form row n) numbers

pub run_ok : (s t : State) (b : ℕ) (bytes : List ℕ) → step s b ≡ Ok t → run (b ∷ bytes) s ≡ run bytes t
unfolding run
run_ok s t b bytes stepped = rw stepped refl

pub run_err : (s : State) (e : WorkError) (b : ℕ) (bytes : List ℕ) → step s b ≡ Err e → run (b ∷ bytes) s ≡ Err e
unfolding run
run_err s e b bytes stepped = rw stepped refl

-- a byte of the word
word_step : (lines : List (List ℕ)) (form : LineForm) (at left : ℕ) (row : Option (List ℕ)) (b : ℕ) → is_whole lines ≡ false → at < length form.word → b ≡ get_or form.word at 0
    → step (state lines form (Word at) left row) b ≡ Ok (state lines form (Word (at + 1)) left row)
unfolding step step_at
word_step lines form at left row b more inside is = rw (more, lt-ltb at (length form.word) inside, eq-eqb b (get_or form.word at 0) is) refl

-- a digit
pub digit_step : (lines : List (List ℕ)) (form : LineForm) (value digits left : ℕ) (row : Option (List ℕ)) (b : ℕ) → is_whole lines ≡ false → is_ascii_digit b ≡ true
    → is_full value digits ≡ false
    → step (state lines form (Number value digits) left row) b ≡ Ok (state lines form (Number (10 * value + (b - 48)) (digits + 1)) left row)
unfolding step step_at
digit_step lines form value digits left row b more digit free = rw (more, digit, free) refl

-- a blank, and a newline, after the word
blank_behind_word : (lines : List (List ℕ)) (form : LineForm) (left : ℕ) (row : Option (List ℕ)) → is_whole lines ≡ false → 0 < left
    → step (state lines form (Word (length form.word)) left row) 32 ≡ Ok (state lines form (Number 0 0) (left - 1) row)
unfolding step step_at turn
blank_behind_word lines form left row more some = rw (more, le-ltb (length form.word) (length form.word) (omega arith), ne_eqb left 0 (λ e. omega arith)) refl

newline_behind_word : (lines : List (List ℕ)) (form : LineForm) (row : Option (List ℕ)) → is_whole lines ≡ false
    → step (state lines form (Word (length form.word)) 0 row) 10 ≡ ended lines row
unfolding step step_at turn
newline_behind_word lines form row more = rw (more, le-ltb (length form.word) (length form.word) (omega arith)) refl

-- a blank, and a newline, after a number
blank_behind_number : (lines : List (List ℕ)) (form : LineForm) (value digits left : ℕ) (row : Option (List ℕ)) → is_whole lines ≡ false → 0 < digits → 0 < left
    → step (state lines form (Number value digits) left row) 32 ≡ Ok (state lines form (Number 0 0) (left - 1) (add form row value))
unfolding step step_at turn
blank_behind_number lines form value digits left row more some_digits some = rw (more, ne_eqb digits 0 (λ e. omega arith), ne_eqb left 0 (λ e. omega arith)) refl

newline_behind_number : (lines : List (List ℕ)) (form : LineForm) (value digits : ℕ) (row : Option (List ℕ)) → is_whole lines ≡ false → 0 < digits
    → step (state lines form (Number value digits) 0 row) 10 ≡ ended lines (add form row value)
unfolding step step_at turn
newline_behind_number lines form value digits row more some_digits = rw (more, ne_eqb digits 0 (λ e. omega arith)) refl

-- the word from a byte of it on
pub word_run : (front back : List ℕ) (lines : List (List ℕ)) (form : LineForm) (left : ℕ) (row : Option (List ℕ)) (bytes : List ℕ) → is_whole lines ≡ false
    → form.word ≡ front ++ back
    → run (back ++ bytes) (state lines form (Word (length front)) left row) ≡ run bytes (state lines form (Word (length form.word)) left row)
word_run front [] lines form left row bytes more same =
    ap (λ n. run bytes (state lines form (Word n) left row)) (sym (ap length same ∙ ap length (append-nil front)))
word_run front (b ∷ back) lines form left row bytes more same =
    run_ok (state lines form (Word (length front)) left row) (state lines form (Word (length front + 1)) left row) b (back ++ bytes)
    (word_step lines form (length front) left row b more (omega (arith, ap length same, length-append front (b ∷ back)))
    (sym (ap (λ w. get_or w (length front) 0) same ∙ ap (λ n. get_or (front ++ b ∷ back) n 0) (let e : length front ≡ length front + 0 = omega arith in e)
    ∙ get_or-append-add front (b ∷ back) 0 0)))
    ∙ ap (λ n. run (back ++ bytes) (state lines form (Word n) left row)) (sym (length_push front b))
    ∙ word_run (front ++ b ∷ []) back lines form left row bytes more (same ∙ sym (append_assoc front (b ∷ []) back))

-- the digits of a number
abbrev Reads : List (List ℕ) → LineForm → ℕ → Option (List ℕ) → ℕ → List ℕ → Type 0
Reads lines form left row n digits =
    length digits ≤ 10 → (0 < length digits) ×
    ((bytes : List ℕ) → run (digits ++ bytes) (state lines form (Number 0 0) left row) ≡ run bytes (state lines form (Number n (length digits)) left row))

pub digits_run : (lines : List (List ℕ)) (form : LineForm) (left n : ℕ) (row : Option (List ℕ)) (bytes : List ℕ) → is_whole lines ≡ false → n < 10 ^ DIGITS
    → run (decimal n ++ bytes) (state lines form (Number 0 0) left row) ≡ run bytes (state lines form (Number n (length (decimal n))) left row)
digits_run lines form left n row bytes more small =
    (decimal_by_steps (Reads lines form left row) one next n (omega arith) (length-decimal-le 10 n (omega arith) small (omega arith))).1 bytes
  where
    one : (k : ℕ) → k < 10 → Reads lines form left row k ((48 + k) ∷ [])
    one k low short = (
      omega arith,
      λ rest.
          let digit : is_ascii_digit (48 + k) ≡ true = grind arith in
          let value : 10 * 0 + ((48 + k) - 48) ≡ k = omega arith in
          run_ok _ (state lines form (Number (10 * 0 + ((48 + k) - 48)) (0 + 1)) left row) (48 + k) rest (digit_step lines form 0 0 left row (48 + k) more digit refl)
          ∙ ap (λ v. run rest (state lines form (Number v 1) left row)) value,
    )

    next : (k : ℕ) (digits : List ℕ) → 10 ≤ k → Reads lines form left row (k / 10) digits → Reads lines form left row k (digits ++ (48 + k % 10) ∷ [])
    next k digits big before short =
        let long : length (digits ++ (48 + k % 10) ∷ []) ≡ length digits + 1 = length_push digits (48 + k % 10) in
        let so_far = before (omega arith) in
        let digit : is_ascii_digit (48 + k % 10) ≡ true = grind arith in
        let free : is_full (k / 10) (length digits) ≡ false = grind (arith, nat_tests) in
        let value : 10 * (k / 10) + ((48 + k % 10) - 48) ≡ k = omega arith in (
          omega arith,
          λ rest.
              ap (λ t. run t (state lines form (Number 0 0) left row)) (append_assoc digits ((48 + k % 10) ∷ []) rest)
              ∙ so_far.1 ((48 + k % 10) ∷ rest)
              ∙ run_ok _ (state lines form (Number (10 * (k / 10) + ((48 + k % 10) - 48)) (length digits + 1)) left row) (48 + k % 10) rest
              (digit_step lines form (k / 10) (length digits) left row (48 + k % 10) more digit free)
              ∙ ap (λ v. run rest (state lines form (Number v (length digits + 1)) left row)) value
              ∙ ap (λ d. run rest (state lines form (Number k d) left row)) (sym long),
        )

-- the numbers after a number, to the end of the line
pub numbers_run : (numbers : List ℕ) (lines : List (List ℕ)) (form : LineForm) (value digits left : ℕ) (row : Option (List ℕ)) (bytes : List ℕ) → is_whole lines ≡ false
    → 0 < digits
    → All (λ n. n < 10 ^ DIGITS) numbers → length numbers ≡ left
    → run ((flat_map blank_number numbers ++ newline) ++ bytes) (state lines form (Number value digits) left row)
    ≡ then_run (run bytes) (ended lines (adds form (add form row value) numbers))
unfolding run
numbers_run [] lines form value digits left row bytes more some short counted =
    ap (λ n. then_run (run bytes) (step (state lines form (Number value digits) n row) 10)) (sym counted)
    ∙ ap (then_run (run bytes)) (newline_behind_number lines form value digits row more some)
numbers_run (n ∷ numbers) lines form value digits left row bytes more some short counted =
    let small : n < 10 ^ DIGITS = All-head (λ (k : ℕ). k < 10 ^ DIGITS) n numbers short in
    run_ok (state lines form (Number value digits) left row) (state lines form (Number 0 0) (left - 1) (add form row value)) 32 _
    (blank_behind_number lines form value digits left row more some (omega arith))
    ∙ ap (λ t. run t (state lines form (Number 0 0) (left - 1) (add form row value)))
    (ap (λ t. t ++ bytes) (append_assoc (decimal n) (flat_map blank_number numbers) newline) ∙ append_assoc (decimal n) (flat_map blank_number numbers ++ newline) bytes)
    ∙ digits_run lines form (left - 1) n (add form row value) ((flat_map blank_number numbers ++ newline) ++ bytes) more small
    ∙ numbers_run numbers lines form n (length (decimal n)) (left - 1) (add form row value) bytes more (decimal_nonempty n (omega arith))
    (All-tail (λ (k : ℕ). k < 10 ^ DIGITS) n numbers short) (omega arith)

-- the numbers after the word, to the end of the line
pub word_end_run : (numbers : List ℕ) (lines : List (List ℕ)) (form : LineForm) (left : ℕ) (row : Option (List ℕ)) (bytes : List ℕ) → is_whole lines ≡ false
    → All (λ n. n < 10 ^ DIGITS) numbers → length numbers ≡ left
    → run ((flat_map blank_number numbers ++ newline) ++ bytes) (state lines form (Word (length form.word)) left row) ≡ then_run (run bytes) (ended lines (adds form row numbers))
unfolding run
word_end_run [] lines form left row bytes more short counted =
    ap (λ n. then_run (run bytes) (step (state lines form (Word (length form.word)) n row) 10)) (sym counted)
    ∙ ap (then_run (run bytes)) (newline_behind_word lines form row more)
word_end_run (n ∷ numbers) lines form left row bytes more short counted =
    let small : n < 10 ^ DIGITS = All-head (λ (k : ℕ). k < 10 ^ DIGITS) n numbers short in
    run_ok (state lines form (Word (length form.word)) left row) (state lines form (Number 0 0) (left - 1) row) 32 _ (blank_behind_word lines form left row more (omega arith))
    ∙ ap (λ t. run t (state lines form (Number 0 0) (left - 1) row))
    (ap (λ t. t ++ bytes) (append_assoc (decimal n) (flat_map blank_number numbers) newline) ∙ append_assoc (decimal n) (flat_map blank_number numbers ++ newline) bytes)
    ∙ digits_run lines form (left - 1) n row ((flat_map blank_number numbers ++ newline) ++ bytes) more small
    ∙ numbers_run numbers lines form n (length (decimal n)) (left - 1) row bytes more (decimal_nonempty n (omega arith))
    (All-tail (λ (k : ℕ). k < 10 ^ DIGITS) n numbers short) (omega arith)

-- a line of its form
pub line_run : (numbers : List ℕ) (lines : List (List ℕ)) (bytes : List ℕ) → is_whole lines ≡ false → IsFormed (next_form lines) numbers
    → run (line (next_form lines).word numbers ++ bytes) (start lines) ≡ then_run (run bytes) (ended lines (adds (next_form lines) (Some []) numbers))
line_run numbers lines bytes more formed =
    let form = next_form lines in
    ap (λ t. run t (start lines)) (append_assoc form.word (flat_map blank_number numbers ++ newline) bytes)
    ∙ word_run [] form.word lines form form.count (Some []) ((flat_map blank_number numbers ++ newline) ++ bytes) more refl
    ∙ word_end_run numbers lines form form.count (Some []) bytes more formed.short formed.counted

-- numbers in their range are kept
pub adds_all : (numbers row : List ℕ) (form : LineForm) → All (λ n. IsTrue (in_range form n)) numbers → adds form (Some row) numbers ≡ Some (row ++ numbers)
adds_all [] row form ranged = ap Some (sym (append-nil row))
adds_all (n ∷ numbers) row form ranged =
    let here : in_range form n ≡ true = All-head (λ (k : ℕ). IsTrue (in_range form k)) n numbers ranged in
    rw here (adds_all numbers (row ++ n ∷ []) form (All-tail (λ (k : ℕ). IsTrue (in_range form k)) n numbers ranged) ∙ ap Some (append_assoc row (n ∷ []) numbers))

-- good lines
pub lines_run : (before lines : List (List ℕ)) (bytes : List ℕ) → AreLines before lines
    → run (lines_text before lines ++ bytes) (start before) ≡ run bytes (start (before ++ lines))
unfolding ended
lines_run before [] bytes good = ap (λ l. run bytes (start l)) (sym (append-nil before))
lines_run before (numbers ∷ lines) bytes (more, good, later) =
    ap (λ t. run t (start before)) (append_assoc (line (next_form before).word numbers) (lines_text (before ++ numbers ∷ []) lines) bytes)
    ∙ line_run numbers before (lines_text (before ++ numbers ∷ []) lines ++ bytes) more good.formed
    ∙ ap (λ r. then_run (run (lines_text (before ++ numbers ∷ []) lines ++ bytes)) (ended before r)) (adds_all numbers [] (next_form before) good.ranged)
    ∙ lines_run (before ++ numbers ∷ []) lines bytes later
    ∙ ap (λ l. run bytes (start l)) (append_assoc before (numbers ∷ []) lines)

-- bytes in two parts
pub run-append : (xs ys : List ℕ) (s : State) → run (xs ++ ys) s ≡ then_run (run ys) (run xs s)
unfolding run
run-append [] ys s = refl
run-append (b ∷ xs) ys s =
    elim (step s b) as (λ r. then_run (run (xs ++ ys)) r ≡ then_run (run ys) (then_run (run xs) r)) [
      | Ok t ↦ run-append xs ys t
      | Err e ↦ refl
    ]

pub run_none : (s : State) → run [] s ≡ Ok s
unfolding run
run_none s = refl

-- no byte yet
pub reaches_none : (bytes : List ℕ) (s : State) → Reaches bytes s bytes s
reaches_none bytes s = record { front = []; split = refl; came = run_none s }

-- what is left, from its first byte on
first_of : (rest : List ℕ) (b : ℕ) → slice_get rest 0 ≡ Some b → rest ≡ b ∷ drop 1 rest
first_of [] b first = cc
first_of (x ∷ rest) b first = let same : x ≡ b = cc in ap (λ y. y ∷ rest) same

-- one more byte
pub reaches_more : (bytes rest : List ℕ) (s t u : State) (b : ℕ) → Reaches bytes s rest t → slice_get rest 0 ≡ Some b → step t b ≡ Ok u → Reaches bytes s (drop 1 rest) u
reaches_more bytes rest s t u b before first stepped =
    record {
      front = before.front ++ b ∷ [];
      split = before.split ∙ ap (λ r. before.front ++ r) (first_of rest b first) ∙ sym (append_assoc before.front (b ∷ []) (drop 1 rest));
      came = run-append before.front (b ∷ []) s ∙ ap (then_run (run (b ∷ []))) before.came ∙ run_ok t u b [] stepped ∙ run_none u;
    }

-- bytes after others
pub reaches_on : (bytes rest last : List ℕ) (s t u : State) → Reaches bytes s rest t → Reaches rest t last u → Reaches bytes s last u
reaches_on bytes rest last s t u before more =
    record {
      front = before.front ++ more.front;
      split = before.split ∙ ap (λ r. before.front ++ r) more.split ∙ sym (append_assoc before.front more.front last);
      came = run-append before.front more.front s ∙ ap (then_run (run more.front)) before.came ∙ more.came;
    }

-- a byte that is refused
pub reaches_stop : (bytes rest : List ℕ) (s t : State) (b : ℕ) (e : WorkError) → Reaches bytes s rest t → slice_get rest 0 ≡ Some b → step t b ≡ Err e → run bytes s ≡ Err e
reaches_stop bytes rest s t b e before first stepped =
    ap (λ xs. run xs s) (before.split ∙ ap (λ r. before.front ++ r) (first_of rest b first))
    ∙ run-append before.front (b ∷ drop 1 rest) s
    ∙ ap (then_run (run (b ∷ drop 1 rest))) before.came
    ∙ run_err t e b (drop 1 rest) stepped

-- a number out of its range is not forgotten
none_stays : (numbers : List ℕ) (form : LineForm) → adds form None numbers ≡ None
none_stays [] form = refl
none_stays (n ∷ numbers) form = none_stays numbers form

-- what is kept is all numbers, each in its range
pub adds_some : (numbers row kept : List ℕ) (form : LineForm) → adds form (Some row) numbers ≡ Some kept → (kept ≡ row ++ numbers) × All (λ n. IsTrue (in_range form n)) numbers
adds_some [] row kept form same = (let e : row ≡ kept = cc in sym e ∙ sym (append-nil row), All-nil (λ (n : ℕ). IsTrue (in_range form n)))
adds_some (n ∷ numbers) row kept form same =
    elim (cases_Bool (in_range form n)) [
      | inl here ↦
          let later = adds_some numbers (row ++ n ∷ []) kept form (rw here at same) in
          (later.0 ∙ append_assoc row (n ∷ []) numbers, All-cons (λ (k : ℕ). IsTrue (in_range form k)) n numbers here later.1)
      | inr past ↦
          let none : adds form None numbers ≡ Some kept = rw past at same in
          let stays : adds form None numbers ≡ None = none_stays numbers form in
          cc
    ]

-- one more number
pub adds_push : (numbers : List ℕ) (n : ℕ) (row : Option (List ℕ)) (form : LineForm) → adds form row (numbers ++ n ∷ []) ≡ add form (adds form row numbers) n
adds_push [] n row form = refl
adds_push (m ∷ numbers) n row form = adds_push numbers n (add form row m) form
