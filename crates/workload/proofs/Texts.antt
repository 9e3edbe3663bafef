-- The text of a workload by its lines.
use Rattle.std.proofs.Common.{◌≡◌, ℕ, ◌+◌, ◌^◌, ◌<◌, ◌≤◌, ◌⊎◌, true, false, List, [], ◌∷◌, ◌++◌}
use Rattle.std.proofs.Common.{length, Result, Ok, Err, refl, sym, ap, subst, ◌∙◌, inl, inr, arith, length-append}
use Rattle.std.specs.Prelude.{All, IsTrue, MatchResult}
use Rattle.std.specs.List.{flat_map}
use Rattle.std.proofs.lemmas.Bool.{cases_Bool, eq-eqb, ne_eqb, eqb-true}
use Rattle.std.proofs.lemmas.Bool.Decides.{nat_tests}
use Rattle.std.proofs.lemmas.List.{append-nil, length_push}
use Rattle.std.proofs.lemmas.List.Elements.{All-nil, All-cons, All-head, All-tail, All-weaker}
use Rattle.workload.specs.declared.error.WorkError.{WorkError}
use Rattle.workload.specs.declared.error.WorkError.TheVariants.{Form, Limit, Long, Read, OutOfMemory}
use Rattle.workload.specs.declared.form.TheConstants.{DIGITS, TEXT_BYTES}
use Rattle.workload.specs.Text.{WorkloadView, line, amounts_text, workload_text, most_amount, IsWithin, IsText}
use Rattle.workload.specs.Faults.{LineForm, pes_form, rounds_form, pad_form, chares_form, amounts_form, only}
use Rattle.workload.specs.Faults.{is_whole, in_range, IsLine, AreLines, lines_text, IsLineFault, IsFault, IsOpen}
use Rattle.workload.specs.Machine.{State, start, run, then_run, lines_of_view}
use Rattle.workload.specs.Reading.{IsAnswer}
use Rattle.workload.proofs.Runs.{run_err, run_none, run-append, lines_run}
use Rattle.workload.proofs.Stops.{After, step_whole}
use Rattle.workload.proofs.Told.{Stops, stops, after_start, end_fault, end_whole, one_line_fault, open_from_run}

rounds_text : (pes rounds pad chares : List ℕ) (done amounts : List (List ℕ)) → lines_text (pes ∷ rounds ∷ pad ∷ chares ∷ done) amounts ≡ flat_map amounts_text amounts
rounds_text pes rounds pad chares done [] = refl
rounds_text pes rounds pad chares done (row ∷ amounts) = ap (λ t. amounts_text row ++ t) (rounds_text pes rounds pad chares (done ++ row ∷ []) amounts)

-- the text of the lines of a workload is its text
pub lines_spell : (w : WorkloadView) → lines_text [] (lines_of_view w) ≡ workload_text w
lines_spell w =
    ap (λ t. line pes_form.word (w.pes ∷ []) ++ (line rounds_form.word (w.rounds ∷ []) ++ (line pad_form.word (w.pad ∷ []) ++ (line chares_form.word (w.chares ∷ []) ++ t))))
    (rounds_text (w.pes ∷ []) (w.rounds ∷ []) (w.pad ∷ []) (w.chares ∷ []) [] w.amounts)

-- the number of a line that has one is in its range
ranged : (form : LineForm) (n : ℕ) → IsLine form (n ∷ []) → in_range form n ≡ true
ranged form n is = All-head (λ (k : ℕ). IsTrue (in_range form k)) n [] is.ranged

small_amount : (chares n : ℕ) → in_range (amounts_form chares) n ≡ true → n ≤ most_amount
small_amount chares n is = grind (arith, nat_tests)

ranged_amount : (chares n : ℕ) → n ≤ most_amount → in_range (amounts_form chares) n ≡ true
ranged_amount chares n is = grind (arith, nat_tests)

amounts_within : (pes rounds pad chares : List ℕ) (done amounts : List (List ℕ)) → AreLines (pes ∷ rounds ∷ pad ∷ chares ∷ done) amounts
    → All (λ row. length row ≡ only chares) amounts × All (λ row. All (λ amount. amount ≤ most_amount) row) amounts
amounts_within pes rounds pad chares done [] good = (All-nil (λ (row : List ℕ). length row ≡ only chares), All-nil (λ (row : List ℕ). All (λ amount. amount ≤ most_amount) row))
amounts_within pes rounds pad chares done (row ∷ amounts) (open_, is, good) =
    let later = amounts_within pes rounds pad chares (done ++ row ∷ []) amounts good in (
      All-cons (λ (r : List ℕ). length r ≡ only chares) row amounts is.formed.counted later.0,
      All-cons (λ (r : List ℕ). All (λ amount. amount ≤ most_amount) r) row amounts
          (All-weaker (λ (n : ℕ). IsTrue (in_range (amounts_form (only chares)) n)) (λ (n : ℕ). n ≤ most_amount) (small_amount (only chares)) row is.ranged) later.1,
    )

-- the limits of good lines
within : (w : WorkloadView) → AreLines [] (lines_of_view w) → is_whole (lines_of_view w) ≡ true → IsWithin w
within w (_, pes, (_, rounds, (_, pad, (_, chares, amounts)))) whole =
    let pes_in : in_range pes_form w.pes ≡ true = ranged pes_form w.pes pes in
    let rounds_in : in_range rounds_form w.rounds ≡ true = ranged rounds_form w.rounds rounds in
    let pad_in : in_range pad_form w.pad ≡ true = ranged pad_form w.pad pad in
    let chares_in : in_range chares_form w.chares ≡ true = ranged chares_form w.chares chares in
    let each = amounts_within (w.pes ∷ []) (w.rounds ∷ []) (w.pad ∷ []) (w.chares ∷ []) [] w.amounts amounts in
    record {
      some_pe = grind (arith, nat_tests);
      few_pes = grind (arith, nat_tests);
      few_rounds = grind (arith, nat_tests);
      small_pad = grind (arith, nat_tests);
      few_chares = grind (arith, nat_tests);
      each_round = eqb-true (length w.amounts) w.rounds whole;
      each_chare = each.0;
      small = each.1;
    }

lone : (form : LineForm) (n : ℕ) → form.count ≡ 1 → n < 10 ^ DIGITS → in_range form n ≡ true → IsLine form (n ∷ [])
lone form n one short is =
    record {
      formed = record { counted = sym one; short = All-cons (λ (k : ℕ). k < 10 ^ DIGITS) n [] short (All-nil (λ (k : ℕ). k < 10 ^ DIGITS)) };
      ranged = All-cons (λ (k : ℕ). IsTrue (in_range form k)) n [] is (All-nil (λ (k : ℕ). IsTrue (in_range form k)));
    }

amounts_lines : (pes rounds pad chares : List ℕ) (done amounts : List (List ℕ)) → length done + length amounts ≡ only rounds → All (λ row. length row ≡ only chares) amounts
    → All (λ row. All (λ amount. amount ≤ most_amount) row) amounts
    → AreLines (pes ∷ rounds ∷ pad ∷ chares ∷ done) amounts
amounts_lines pes rounds pad chares done [] counted each small = tt
amounts_lines pes rounds pad chares done (row ∷ amounts) counted each small =
    let here : All (λ amount. amount ≤ most_amount) row = All-head (λ (r : List ℕ). All (λ amount. amount ≤ most_amount) r) row amounts small in (
      ne_eqb (length done) (only rounds) (λ e. omega arith),
      record {
        formed = record {
          counted = All-head (λ (r : List ℕ). length r ≡ only chares) row amounts each;
          short = All-weaker (λ (n : ℕ). n ≤ most_amount)
              (λ (n : ℕ). n < 10 ^ DIGITS) (λ n few. omega arith) row here;
        };
        ranged = All-weaker (λ (n : ℕ). n ≤ most_amount) (λ (n : ℕ). IsTrue (in_range (amounts_form (only chares)) n)) (ranged_amount (only chares)) row here;
      },
      amounts_lines pes rounds pad chares (done ++ row ∷ []) amounts (omega (arith, length_push done row)) (All-tail (λ (r : List ℕ). length r ≡ only chares) row amounts each)
          (All-tail (λ (r : List ℕ). All (λ amount. amount ≤ most_amount) r) row amounts small),
    )

-- the lines of a workload within its limits are good
good_lines : (w : WorkloadView) → IsWithin w → AreLines [] (lines_of_view w)
good_lines w is =
    let pes : in_range pes_form w.pes ≡ true = grind (arith, nat_tests, is.some_pe, is.few_pes) in
    let rounds : in_range rounds_form w.rounds ≡ true = grind (arith, nat_tests, is.few_rounds) in
    let pad : in_range pad_form w.pad ≡ true = grind (arith, nat_tests, is.small_pad) in
    let chares : in_range chares_form w.chares ≡ true = grind (arith, nat_tests, is.few_chares) in (
      refl,
      lone pes_form w.pes refl (omega (arith, is.few_pes)) pes,
      (
        refl,
        lone rounds_form w.rounds refl (omega (arith, is.few_rounds)) rounds,
        (
          refl,
          lone pad_form w.pad refl (omega (arith, is.small_pad)) pad,
          (
            refl,
            lone chares_form w.chares refl (omega (arith, is.few_chares)) chares,
            amounts_lines (w.pes ∷ []) (w.rounds ∷ []) (w.pad ∷ []) (w.chares ∷ []) [] w.amounts
                (omega (arith, is.each_round)) is.each_chare is.small,
          ),
        ),
      ),
    )

all_lines : (w : WorkloadView) → IsWithin w → is_whole (lines_of_view w) ≡ true
all_lines w is = eq-eqb (length w.amounts) w.rounds is.each_round

-- a text is read to its end
pub text_runs : (w : WorkloadView) (bytes : List ℕ) → IsText w bytes → run bytes (start []) ≡ Ok (start (lines_of_view w))
text_runs w bytes is =
    ap (λ t. run t (start [])) (is.spelled ∙ sym (lines_spell w) ∙ sym (append-nil (lines_text [] (lines_of_view w))))
    ∙ lines_run [] (lines_of_view w) [] (good_lines w is.within)
    ∙ run_none (start (lines_of_view w))

-- bytes that are read to the end of all lines are a text
pub text_from_run : (w : WorkloadView) (bytes : List ℕ) (s : State) → run bytes (start []) ≡ Ok s → is_whole s.lines ≡ true → s.lines ≡ lines_of_view w
    → length bytes ≤ TEXT_BYTES → IsText w bytes
text_from_run w bytes s came whole lines short =
    let ends = end_whole s bytes (subst (After [] bytes) came (after_start [] bytes)) whole in
    record {
      spelled = ends.1 ∙ ap (lines_text []) lines ∙ lines_spell w;
      within = within w (subst (AreLines []) lines ends.0) (subst (λ l. is_whole l ≡ true) lines whole);
      short = short;
    }

same_lines : (v w : WorkloadView) → lines_of_view v ≡ lines_of_view w → v ≡ w
same_lines v w same =
    let pes : v.pes ≡ w.pes = cc in
    let rounds : v.rounds ≡ w.rounds = cc in
    let pad : v.pad ≡ w.pad = cc in
    let chares : v.chares ≡ w.chares = cc in
    let amounts : v.amounts ≡ w.amounts = cc in
    view_is v w pes rounds pad chares amounts
  where
    view_is : (a b : WorkloadView) → a.pes ≡ b.pes → a.rounds ≡ b.rounds → a.pad ≡ b.pad → a.chares ≡ b.chares → a.amounts ≡ b.amounts → a ≡ b
    view_is a b pes rounds pad chares amounts = rw (pes, rounds, pad, chares, amounts) refl

-- bytes are the text of one workload
pub one_workload : (v w : WorkloadView) (bytes : List ℕ) → IsText v bytes → IsText w bytes → v ≡ w
one_workload v w bytes one other =
    let same : Ok (start (lines_of_view v)) ≡ Ok (start (lines_of_view w)) = sym (text_runs v bytes one) ∙ text_runs w bytes other in
    let starts : start (lines_of_view v) ≡ start (lines_of_view w) = cc in
    same_lines v w (ap (λ (s : State). s.lines) starts)

-- a text has no fault in any line
no_line_fault : (w : WorkloadView) (bytes : List ℕ) (e : WorkError) → IsText w bytes → IsLineFault bytes e → ⊥
no_line_fault w bytes (Form n) is fault =
    let told : Stops [] bytes (Form n) (Ok (start (lines_of_view w))) = subst (Stops [] bytes (Form n)) (text_runs w bytes is) (stops [] bytes (Form n) fault) in
    let whole : is_whole (lines_of_view w) ≡ true = all_lines w is.within in
    let other : is_whole (lines_of_view w) ≡ false = told.0 in
    cc
no_line_fault w bytes (Limit n) is fault = subst (Stops [] bytes (Limit n)) (text_runs w bytes is) (stops [] bytes (Limit n) fault)
no_line_fault w bytes Long is fault = fault
no_line_fault w bytes Read is fault = fault
no_line_fault w bytes OutOfMemory is fault = fault

-- a text has no fault
pub no_fault : (w : WorkloadView) (bytes : List ℕ) (e : WorkError) → IsText w bytes → IsFault bytes e → ⊥
no_fault w bytes (Form n) is fault = no_line_fault w bytes (Form n) is fault.1
no_fault w bytes (Limit n) is fault = no_line_fault w bytes (Limit n) is fault.1
no_fault w bytes Long is fault = omega (arith, is.short)
no_fault w bytes Read is fault = fault.1
no_fault w bytes OutOfMemory is fault = fault.1

-- bytes have one fault at most
pub one_fault : (bytes : List ℕ) (e f : WorkError) → IsFault bytes e → IsFault bytes f → e ≡ f
one_fault bytes Long Long first second = refl
one_fault bytes Long (Form n) first second = absurd (omega (arith, second.0))
one_fault bytes Long (Limit n) first second = absurd (omega (arith, second.0))
one_fault bytes (Form n) Long first second = absurd (omega (arith, first.0))
one_fault bytes (Limit n) Long first second = absurd (omega (arith, first.0))
one_fault bytes (Form n) (Form m) first second = one_line_fault bytes (Form n) (Form m) first.1 second.1
one_fault bytes (Form n) (Limit m) first second = one_line_fault bytes (Form n) (Limit m) first.1 second.1
one_fault bytes (Limit n) (Form m) first second = one_line_fault bytes (Limit n) (Form m) first.1 second.1
one_fault bytes (Limit n) (Limit m) first second = one_line_fault bytes (Limit n) (Limit m) first.1 second.1
one_fault bytes Read f first second = absurd first.1
one_fault bytes OutOfMemory f first second = absurd first.1
one_fault bytes (Form n) Read first second = absurd second.1
one_fault bytes (Form n) OutOfMemory first second = absurd second.1
one_fault bytes (Limit n) Read first second = absurd second.1
one_fault bytes (Limit n) OutOfMemory first second = absurd second.1
one_fault bytes Long Read first second = absurd second.1
one_fault bytes Long OutOfMemory first second = absurd second.1

-- the answer to a text is its workload, and the answer to bytes with a fault is that
pub answered : (w : WorkloadView) (bytes : List ℕ) (result : Result WorkloadView WorkError) → IsAnswer bytes result → IsText w bytes
    → MatchResult result (λ v. v ≡ w) (λ e. e ≡ OutOfMemory)
answered w bytes (Ok v) answer is = one_workload v w bytes answer is
answered w bytes (Err e) answer is =
    elim answer [
      | inl none ↦ none.0
      | inr fault ↦ absurd (no_fault w bytes e is fault)
    ]

pub refused : (bytes : List ℕ) (e : WorkError) (result : Result WorkloadView WorkError) → IsAnswer bytes result → IsFault bytes e
    → MatchResult result (λ _. ⊥) (λ f. (f ≡ OutOfMemory) ⊎ (f ≡ e))
refused bytes e (Ok w) answer fault = no_fault w bytes e answer fault
refused bytes e (Err f) answer fault =
    elim answer [
      | inl none ↦ inl none.0
      | inr also ↦ inr (one_fault bytes f e also fault)
    ]

-- a workload has one text
pub one_text : (w : WorkloadView) (a b : List ℕ) → IsText w a → IsText w b → a ≡ b
one_text w a b one other = one.spelled ∙ sym other.spelled

-- the beginning of a text has no fault that holds whatever follows
pub open_front : (w : WorkloadView) (front rest : List ℕ) → IsText w (front ++ rest) → IsOpen front
open_front w front rest is = by (run front (start [])) refl
  where
    by : (r : Result State WorkError) → run front (start []) ≡ r → IsOpen front
    by (Ok s) came = open_from_run front s came
    by (Err e) stopped =
        let gone : run (front ++ rest) (start []) ≡ Err e = run-append front rest (start []) ∙ ap (then_run (run rest)) stopped in
        let ends : run (front ++ rest) (start []) ≡ Ok (start (lines_of_view w)) = text_runs w (front ++ rest) is in
        cc

-- the beginning of a text that is not the whole text lacks a line, or the end of one
pub beginning : (w : WorkloadView) (front rest : List ℕ) → IsText w (front ++ rest) → 0 < length rest → (k : ℕ) × IsFault front (Form k)
beginning w front rest is some = by (run front (start [])) refl
  where
    ends : run (front ++ rest) (start []) ≡ Ok (start (lines_of_view w))
    ends = text_runs w (front ++ rest) is

    behind : (more : List ℕ) (s : State) → 0 < length more → is_whole s.lines ≡ true → run more s ≡ Err (Form (length s.lines + 1))
    behind [] s left whole = absurd (omega arith)
    behind (b ∷ more) s left whole = run_err s (Form (length s.lines + 1)) b more (step_whole s b whole)

    by : (r : Result State WorkError) → run front (start []) ≡ r → (k : ℕ) × IsFault front (Form k)
    by (Err e) stopped =
        let gone : run (front ++ rest) (start []) ≡ Err e = run-append front rest (start []) ∙ ap (then_run (run rest)) stopped in
        absurd (let both : Ok (start (lines_of_view w)) ≡ Err e = sym ends ∙ gone in cc)
    by (Ok s) came =
        elim (cases_Bool (is_whole s.lines)) [
          | inl whole ↦
              let gone : run (front ++ rest) (start []) ≡ Err (Form (length s.lines + 1)) = run-append front rest (start []) ∙ ap (then_run (run rest)) came
              ∙ behind rest s some whole in
              absurd (let both : Ok (start (lines_of_view w)) ≡ Err (Form (length s.lines + 1)) = sym ends ∙ gone in cc)
          | inr open_ ↦
              let fault : IsLineFault front (Form (length s.lines + 1)) = end_fault [] s front (subst (After [] front) came (after_start [] front)) open_ in
              (length s.lines + 1, (omega (arith, is.short, length-append front rest), fault))
        ]

-- the laws of the text
pub ruleset text_laws = (one_workload, one_text, one_fault, one_line_fault, no_fault, open_front)
