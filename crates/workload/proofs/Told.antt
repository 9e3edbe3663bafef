-- Bytes have no more than one fault, and the text of a workload has none.
use Rattle.std.proofs.Common.{◌≡◌, ℕ, ◌+◌, ◌*◌, ◌-◌, ◌^◌, ◌<◌, true, false, List, [], ◌∷◌, ◌++◌, length, take, drop}
use Rattle.std.proofs.Common.{replicate, Option, Some, None, Result, Ok, Err, refl, sym, ap, subst, ◌∙◌, inl, inr, arith, append_assoc}
use Rattle.std.specs.Prelude.{All}
use Rattle.std.specs.List.{flat_map}
use Rattle.std.proofs.lemmas.Bool.{cases_lt}
use Rattle.std.proofs.lemmas.Bool.Decides.{nat_tests}
use Rattle.std.proofs.lemmas.List.{append-nil, length_push, length-replicate, length-take-le, take-append-drop}
use Rattle.std.proofs.lemmas.List.Elements.{All-replicate}
use Rattle.workload.specs.declared.error.WorkError.{WorkError}
use Rattle.workload.specs.declared.error.WorkError.TheVariants.{Form, Limit, Long, Read, OutOfMemory}
use Rattle.workload.specs.declared.form.TheConstants.{DIGITS}
use Rattle.workload.specs.declared.judge.Spot.{Spot}
use Rattle.workload.specs.declared.judge.Spot.TheVariants.{Word, Number}
use Rattle.workload.specs.Text.{line, blank_number, newline}
use Rattle.workload.specs.Faults.{LineForm, next_form, is_whole, AreLines, lines_text, IsMalformed, IsPast, IsFormless, IsFaulty, IsLineFaultAfter, IsLineFault, IsBroken, IsOpen}
use Rattle.workload.specs.Machine.{State, start, add, ended, then_run, run, line_number}
use Rattle.workload.proofs.Runs.{state, adds, run_ok, run_err, run_none, run-append, line_run, lines_run, word_run, word_end_run, numbers_run, digit_step, adds_some}
use Rattle.workload.proofs.Kept.{Spelled, Holds, holds_start, no_part_behind}
use Rattle.workload.proofs.Stops.{After, after_run, step_whole}

-- what a reader at the start of a line holds
pub after_start : (before : List (List ℕ)) (bytes : List ℕ) → After before bytes (run bytes (start before))
after_start before bytes = after_run bytes before (start before) [] (holds_start before)

-- after all lines nothing is read
nothing_behind : (part : List ℕ) (lines : List (List ℕ)) (s : State) → is_whole lines ≡ true → run part (start lines) ≡ Ok s → part ≡ []
nothing_behind [] lines s whole came = refl
nothing_behind (b ∷ part) lines s whole came =
    let stops : run (b ∷ part) (start lines) ≡ Err (Form (line_number (start lines))) = run_err (start lines) (Form (line_number (start lines))) b part
    (step_whole (start lines) b whole) in
    cc

-- the part of a line that is not complete is no line
part_is_malformed : (lines : List (List ℕ)) (part : List ℕ) (s : State) → is_whole lines ≡ false → s.lines ≡ lines → run part (start lines) ≡ Ok s
    → IsMalformed (next_form lines) part
part_is_malformed lines part s open_ same came =
    λ numbers tail formed spelled. no_part_behind lines (adds (next_form lines) (Some []) numbers) tail s
    (sym (line_run numbers lines tail open_ formed) ∙ ap (λ t. run t (start lines)) (sym spelled) ∙ came) same

-- where a text ends too early, the line that is not complete is its fault
pub end_fault : (before : List (List ℕ)) (s : State) (text : List ℕ) → Holds before s text → is_whole s.lines ≡ false → IsLineFaultAfter before text (Form (line_number s))
end_fault before s text h open_ =
    record {
      lines = h.lines;
      rest = h.part;
      good = h.good;
      spelled = h.whole;
      fault = subst (λ l. IsFormless l h.part) h.lines_are (inl (open_, part_is_malformed s.lines h.part s open_ refl h.came));
      numbered = ap (λ (l : List (List ℕ)). length l + 1) h.lines_are;
    }

-- where it does not, the text is that of its lines
pub end_whole : (s : State) (text : List ℕ) → Holds [] s text → is_whole s.lines ≡ true → AreLines [] s.lines × (text ≡ lines_text [] s.lines)
end_whole s text h whole =
    let none : h.part ≡ [] = nothing_behind h.part s.lines s whole h.came in (
      subst (AreLines []) (sym h.lines_are) h.good,
      h.whole ∙ ap (λ p. lines_text [] h.lines ++ p) none ∙ append-nil (lines_text [] h.lines) ∙ ap (lines_text []) (sym h.lines_are),
    )

-- bytes in which a line is not of its form begin with no good line
no_line : (before lines : List (List ℕ)) (bytes part : List ℕ) → IsMalformed (next_form before) bytes → AreLines before lines → bytes ≡ lines_text before lines ++ part
    → lines ≡ []
no_line before [] bytes part malformed good spelled = refl
no_line before (numbers ∷ lines) bytes part malformed (open_, is, good) spelled =
    absurd (malformed numbers (lines_text (before ++ numbers ∷ []) lines ++ part) is.formed
    (spelled ∙ append_assoc (line (next_form before).word numbers) (lines_text (before ++ numbers ∷ []) lines) part))

-- What a reader does at bytes with this fault: it stops with it, or holds them, and a line is not complete.
abbrev pub Stops : List (List ℕ) → List ℕ → WorkError → Result State WorkError → Type 0
Stops before bytes (Form n) (Ok s) = (is_whole s.lines ≡ false) × (n ≡ line_number s)
Stops before bytes e (Ok s) = ⊥
Stops before bytes e (Err f) = f ≡ e

-- at a line that is not of its form
stops_malformed : (lines : List (List ℕ)) (rest : List ℕ) (r : Result State WorkError) → is_whole lines ≡ false → IsMalformed (next_form lines) rest → After lines rest r
    → Stops lines rest (Form (length lines + 1)) r
stops_malformed lines rest (Ok s) open_ malformed h =
    let none : h.lines ≡ [] = no_line lines h.lines rest h.part malformed h.good h.whole in
    let same : s.lines ≡ lines = h.lines_are ∙ ap (λ l. lines ++ l) none ∙ append-nil lines in
    (ap is_whole same ∙ open_, ap (λ (l : List (List ℕ)). length l + 1) (sym same))
stops_malformed lines rest (Err (Form n)) open_ malformed h =
    let fault : IsFaulty lines rest IsFormless n = subst (λ t. IsFaulty lines t IsFormless n) (append-nil rest) (h []) in
    let none : fault.lines ≡ [] = no_line lines fault.lines rest fault.rest malformed fault.good fault.spelled in
    ap Form (fault.numbered ∙ ap (λ l. length (lines ++ l) + 1) none ∙ ap (λ (l : List (List ℕ)). length l + 1) (append-nil lines))
stops_malformed lines rest (Err (Limit n)) open_ malformed h =
    let Fault : List (List ℕ) → List ℕ → Type 0 = λ ls bs. (is_whole ls ≡ false) × IsPast (next_form ls) bs in
    let fault : IsFaulty lines rest Fault n = subst (λ t. IsFaulty lines t Fault n) (append-nil rest) (h []) in
    let none : fault.lines ≡ [] = no_line lines fault.lines rest fault.rest malformed fault.good fault.spelled in
    let past : IsPast (next_form lines) fault.rest = subst (λ l. IsPast (next_form l) fault.rest) (ap (λ l. lines ++ l) none ∙ append-nil lines) fault.fault.1 in
    absurd (malformed past.numbers past.tail past.formed (fault.spelled ∙ ap (λ l. lines_text lines l ++ fault.rest) none ∙ past.spelled))
stops_malformed lines rest (Err Long) open_ malformed h = absurd (h [])
stops_malformed lines rest (Err Read) open_ malformed h = absurd (h [])
stops_malformed lines rest (Err OutOfMemory) open_ malformed h = absurd (h [])

-- after all lines
stops_behind : (lines : List (List ℕ)) (rest : List ℕ) → is_whole lines ≡ true → 0 < length rest → run rest (start lines) ≡ Err (Form (length lines + 1))
stops_behind lines [] whole some = absurd (omega arith)
stops_behind lines (b ∷ rest) whole some = run_err (start lines) (Form (length lines + 1)) b rest (step_whole (start lines) b whole)

-- at a line with a number out of its range
stops_past : (lines : List (List ℕ)) (rest : List ℕ) → is_whole lines ≡ false → IsPast (next_form lines) rest → run rest (start lines) ≡ Err (Limit (length lines + 1))
unfolding ended
stops_past lines rest open_ past =
    ap (λ t. run t (start lines)) past.spelled ∙ line_run past.numbers lines past.tail open_ past.formed ∙ by (adds (next_form lines) (Some []) past.numbers) refl
  where
    by : (row : Option (List ℕ)) → adds (next_form lines) (Some []) past.numbers ≡ row → then_run (run past.tail) (ended lines row) ≡ Err (Limit (length lines + 1))
    by None none = refl
    by (Some row) some = absurd (past.past (adds_some past.numbers [] row (next_form lines) some).1)

pub stops : (before : List (List ℕ)) (bytes : List ℕ) (e : WorkError) → IsLineFaultAfter before bytes e → Stops before bytes e (run bytes (start before))
stops before bytes (Form n) fault =
    let all = before ++ fault.lines in
    let gone : run bytes (start before) ≡ run fault.rest (start all) = ap (λ t. run t (start before)) fault.spelled ∙ lines_run before fault.lines fault.rest fault.good in
    subst (Stops before bytes (Form n)) (sym gone) (subst (λ k. Stops before bytes (Form k) (run fault.rest (start all))) (sym fault.numbered) (elim fault.fault [
      | inl (open_, malformed) ↦ same_stop (run fault.rest (start all)) (stops_malformed all fault.rest (run fault.rest (start all)) open_ malformed (after_start all fault.rest))
      | inr (whole, some) ↦ subst (Stops before bytes (Form (length all + 1))) (sym (stops_behind all fault.rest whole some)) refl
    ]))
  where
    same_stop : (r : Result State WorkError) → Stops (before ++ fault.lines) fault.rest (Form (length (before ++ fault.lines) + 1)) r
        → Stops before bytes (Form (length (before ++ fault.lines) + 1)) r
    same_stop (Ok s) told = told
    same_stop (Err f) told = told
stops before bytes (Limit n) fault =
    let all = before ++ fault.lines in
    let gone : run bytes (start before) ≡ run fault.rest (start all) = ap (λ t. run t (start before)) fault.spelled ∙ lines_run before fault.lines fault.rest fault.good in
    subst (Stops before bytes (Limit n)) (sym (gone ∙ stops_past all fault.rest fault.fault.0 fault.fault.1)) (ap Limit (sym fault.numbered))
stops before bytes Long fault = absurd fault
stops before bytes Read fault = absurd fault
stops before bytes OutOfMemory fault = absurd fault

-- two faults at which a reader does the same are the same
one_stop : (before : List (List ℕ)) (bytes : List ℕ) (e f : WorkError) (r : Result State WorkError) → Stops before bytes e r → Stops before bytes f r → e ≡ f
one_stop before bytes e f (Err g) first second = sym first ∙ second
one_stop before bytes (Form n) (Form m) (Ok s) first second = ap Form (first.1 ∙ sym second.1)
one_stop before bytes (Form n) (Limit m) (Ok s) first second = absurd second
one_stop before bytes (Form n) Long (Ok s) first second = absurd second
one_stop before bytes (Form n) Read (Ok s) first second = absurd second
one_stop before bytes (Form n) OutOfMemory (Ok s) first second = absurd second
one_stop before bytes (Limit n) f (Ok s) first second = absurd first
one_stop before bytes Long f (Ok s) first second = absurd first
one_stop before bytes Read f (Ok s) first second = absurd first
one_stop before bytes OutOfMemory f (Ok s) first second = absurd first

-- the first faulty line, and what is wrong with it, are determined
pub one_line_fault : (bytes : List ℕ) (e f : WorkError) → IsLineFault bytes e → IsLineFault bytes f → e ≡ f
one_line_fault bytes e f first second = one_stop [] bytes e f (run bytes (start [])) (stops [] bytes e first) (stops [] bytes f second)

-- a fault that is certain already
pub broken : (bytes : List ℕ) (e : WorkError) → run bytes (start []) ≡ Err e → IsBroken bytes e
broken bytes e stopped = subst (After [] bytes) stopped (after_start [] bytes)

-- bytes with which the line that is not complete ends
pub record Completion (s : State) : Type 0 where
  pub bytes : List ℕ
  pub row : Option (List ℕ)
  pub ends : run bytes s ≡ ended s.lines row

bound : (r : Result State WorkError) → then_run (run []) r ≡ r
bound (Ok s) = run_none s
bound (Err e) = refl

zeros_short : (n : ℕ) → All (λ k. k < 10 ^ DIGITS) (replicate n 0)
zeros_short n = All-replicate (λ (k : ℕ). k < 10 ^ DIGITS) n 0 (omega arith)

complete : (lines : List (List ℕ)) (form : LineForm) (spot : Spot) (left : ℕ) (row : Option (List ℕ)) (part : List ℕ) → is_whole lines ≡ false
    → Spelled form spot left row part → Completion (state lines form spot left row)
complete lines form (Word at) left row part open_ spelled =
    let end_ : List ℕ = flat_map blank_number (replicate left 0) ++ newline in
    let front_len : length (take at form.word) ≡ at = length-take-le at form.word spelled.0 in
    record {
      bytes = drop at form.word ++ (end_ ++ []);
      row = adds form row (replicate left 0);
      ends =
          ap (λ n. run (drop at form.word ++ (end_ ++ [])) (state lines form (Word n) left row)) (sym front_len)
          ∙ word_run (take at form.word) (drop at form.word) lines form left row (end_ ++ []) open_ (sym (take-append-drop at form.word))
          ∙ word_end_run (replicate left 0) lines form left row [] open_ (zeros_short left) (length-replicate left 0)
          ∙ bound (ended lines (adds form row (replicate left 0)));
    }
complete lines form (Number value digits) left row part open_ spelled =
    elim (cases_lt 0 digits) [
      | inl some ↦ record {
        bytes = (flat_map blank_number (replicate left 0) ++ newline) ++ [];
        row = adds form (add form row value) (replicate left 0);
        ends = numbers_run (replicate left 0) lines form value digits left row [] open_ some (zeros_short left) (length-replicate left 0)
            ∙ bound (ended lines (adds form (add form row value) (replicate left 0)));
      }
      | inr none ↦
          let next : ℕ = 10 * value + (48 - 48) in
          record {
            bytes = 48 ∷ ((flat_map blank_number (replicate left 0) ++ newline) ++ []);
            row = adds form (add form row next) (replicate left 0);
            ends =
                run_ok (state lines form (Number value digits) left row) (state lines form (Number next (digits + 1)) left row) 48
                ((flat_map blank_number (replicate left 0) ++ newline) ++ []) (digit_step lines form value digits left row 48 open_ refl (grind (arith, nat_tests)))
                ∙ numbers_run (replicate left 0) lines form next (digits + 1) left row [] open_ (omega arith) (zeros_short left) (length-replicate left 0)
                ∙ bound (ended lines (adds form (add form row next) (replicate left 0)));
          }
    ]

pub completion : (before : List (List ℕ)) (s : State) (text : List ℕ) → Holds before s text → is_whole s.lines ≡ false → Completion s
completion before s text h open_ = complete s.lines s.form s.spot s.left s.row h.part open_ h.spelled

-- no fault is certain in bytes that a reader holds
not_both : (s : State) (r : Result State WorkError) (n : ℕ) (bytes : List ℕ) → n ≡ line_number s → (row : Option (List ℕ)) → r ≡ ended s.lines row → Stops [] bytes (Form n) r → ⊥
unfolding ended
not_both s (Ok t) n bytes numbered None same told = cc
not_both s (Ok t) n bytes numbered (Some row) same told =
    let is : t ≡ start (s.lines ++ row ∷ []) = cc in
    omega (arith, length_push s.lines row, told.1, ap (λ (u : State). length u.lines) is)
not_both s (Err e) n bytes numbered None same told = let is : e ≡ Limit (length s.lines + 1) = cc in cc
not_both s (Err e) n bytes numbered (Some row) same told = cc

open_stop : (bytes : List ℕ) (s : State) (e : WorkError) → run bytes (start []) ≡ Ok s → Holds [] s bytes → Stops [] bytes e (Ok s) → Stops [] (bytes ++ []) e (Ok s)
    → IsBroken bytes e → ⊥
open_stop bytes s (Form n) came h told _ always =
    let c = completion [] s bytes h told.0 in
    let runs : run (bytes ++ c.bytes) (start []) ≡ ended s.lines c.row = run-append bytes c.bytes (start []) ∙ ap (then_run (run c.bytes)) came ∙ c.ends in
    not_both s (run (bytes ++ c.bytes) (start [])) n (bytes ++ c.bytes) told.1 c.row runs (stops [] (bytes ++ c.bytes) (Form n) (always c.bytes))
open_stop bytes s (Limit n) came h told _ always = told
open_stop bytes s Long came h told _ always = told
open_stop bytes s Read came h told _ always = told
open_stop bytes s OutOfMemory came h told _ always = told

pub open_from_run : (bytes : List ℕ) (s : State) → run bytes (start []) ≡ Ok s → IsOpen bytes
open_from_run bytes s came =
    λ e always.
    let at_end : IsLineFault bytes e = subst (λ t. IsLineFault t e) (append-nil bytes) (always []) in
    let told : Stops [] bytes e (Ok s) = subst (Stops [] bytes e) came (stops [] bytes e at_end) in
    let h : Holds [] s bytes = subst (After [] bytes) came (after_start [] bytes) in
    open_stop bytes s e came h told (subst (λ t. Stops [] t e (Ok s)) (sym (append-nil bytes)) told) always
