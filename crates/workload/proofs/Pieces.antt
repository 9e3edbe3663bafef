-- What is reported of bytes, read whole or piece by piece.
use Rattle.std.proofs.Common.{◌≡◌, ℕ, ◌+◌, ◌<◌, ◌≤◌, ◌⊎◌, inl, inr, true, false, List, [], ◌++◌, length, take}
use Rattle.std.proofs.Common.{◌∷◌, Option, Some, None, Result, Ok, Err, refl, sym, ap, subst, ◌∙◌, arith, append_assoc, length-append}
use Rattle.std.specs.Prelude.{IfErr, IfSome, IsErrOf, MatchResult, OnOk, ⊤}
use Rattle.std.specs.Result.{IsErr, IsErrAnd}
use Rattle.std.specs.Io.KnownBytes.{Consumes, IsAtEnd}
use Rattle.std.proofs.lemmas.Bool.{cases_Bool, cases_lt}
use Rattle.std.proofs.lemmas.List.{append-nil}
use Rattle.std.proofs.KnownBytes.{Consumes-nil, Consumes-trans}
use Rattle.workload.specs.declared.error.WorkError.{WorkError}
use Rattle.workload.specs.declared.error.WorkError.TheVariants.{Form, Limit, Long, Read, OutOfMemory}
use Rattle.workload.specs.declared.form.TheConstants.{TEXT_BYTES}
use Rattle.workload.specs.Text.{WorkloadView, IsText}
use Rattle.workload.specs.Faults.{is_whole, AreLines, lines_text, IsLineFault, IsFault}
use Rattle.workload.specs.declared.judge.Judge.{Judge}
use Rattle.workload.specs.Machine.{State, Grows, IsHeld, IsJudged, start, run, state_of, then_run, lines_of_view}
use Rattle.workload.specs.Reading.{NeedsMemory, IsAnswer, IsReadAnswer, IsReadError, IsReading, EndsAt, ReadsToItsEnd}
use Rattle.workload.proofs.Runs.{run-append}
use Rattle.workload.proofs.Kept.{Holds}
use Rattle.workload.proofs.Stops.{After}
use Rattle.workload.proofs.Told.{after_start, broken, end_fault, end_whole}
use Rattle.workload.proofs.Texts.{text_from_run}

-- the fault of a line in bytes that are not too many
short_fault : (bytes : List ℕ) (e : WorkError) → length bytes ≤ TEXT_BYTES → IsLineFault bytes e → IsFault bytes e
short_fault bytes (Form n) short fault = (short, fault)
short_fault bytes (Limit n) short fault = (short, fault)
short_fault bytes Long short fault = absurd fault
short_fault bytes Read short fault = absurd fault
short_fault bytes OutOfMemory short fault = absurd fault

line_fault : (bytes : List ℕ) (e : WorkError) → run bytes (start []) ≡ Err e → IsLineFault bytes e
line_fault bytes e stopped = subst (λ t. IsLineFault t e) (append-nil bytes) (broken bytes e stopped [])

-- where memory was refused, a line of a round had to come
needs_memory : (bytes : List ℕ) (s : State) → s ≡ start [] → Grows s bytes → NeedsMemory bytes
needs_memory bytes s fresh grows =
    let h : Holds [] grows.at grows.front = subst (After [] grows.front) (ap (run grows.front) (sym fresh) ∙ grows.came) (after_start [] grows.front) in
    record {
      lines = h.lines;
      rest = h.part ++ grows.rest;
      good = h.good;
      spelled = grows.split ∙ ap (λ t. t ++ grows.rest) h.whole ∙ append_assoc (lines_text [] h.lines) h.part grows.rest;
      head = omega (arith, grows.growing.0, ap length h.lines_are);
      more = ap is_whole (sym h.lines_are) ∙ grows.growing.1;
    }

pub fault_answer : (bytes : List ℕ) (s : State) (e : WorkError) → s ≡ start [] → length bytes ≤ TEXT_BYTES → ((e ≡ OutOfMemory) × Grows s bytes) ⊎ (run bytes s ≡ Err e)
    → IsAnswer bytes (Err e)
fault_answer bytes s e fresh short (inl (none, grows)) = inl (none, needs_memory bytes s fresh grows)
fault_answer bytes s e fresh short (inr stopped) = inr (short_fault bytes e short (line_fault bytes e (ap (run bytes) (sym fresh) ∙ stopped)))

-- what the end of the bytes says
abbrev pub Ends : State → Result WorkloadView WorkError → Type 0
Ends s result =
    MatchResult result
    (λ w. (is_whole s.lines ≡ true) × (s.lines ≡ lines_of_view w))
    (λ e. (is_whole s.lines ≡ false) × (e ≡ Form (length s.lines + 1)))

end_line_fault : (bytes : List ℕ) (s : State) (e : WorkError) → run bytes (start []) ≡ Ok s → (is_whole s.lines ≡ false) × (e ≡ Form (length s.lines + 1)) → IsLineFault bytes e
end_line_fault bytes s e came (open_, is) =
    subst (IsLineFault bytes) (sym is) (end_fault [] s bytes (subst (After [] bytes) came (after_start [] bytes)) open_)

pub end_answer : (bytes : List ℕ) (s : State) (result : Result WorkloadView WorkError) → run bytes (start []) ≡ Ok s → length bytes ≤ TEXT_BYTES → Ends s result
    → IsAnswer bytes result
end_answer bytes s (Ok w) came short ends = text_from_run w bytes s came ends.0 ends.1 short
end_answer bytes s (Err e) came short ends = inr (short_fault bytes e short (end_line_fault bytes s e came ends))

-- the fault that a reader stopped at, in bytes that are not too many
faulty : (bytes : List ℕ) (e : WorkError) → length bytes ≤ TEXT_BYTES → run bytes (start []) ≡ Err e → IsFault bytes e
faulty bytes e short stopped = short_fault bytes e short (line_fault bytes e stopped)

-- one more piece
module _ {A : Type 0} where
  pub still_stopped : (text piece : List ℕ) (old new : Judge A) (e : WorkError) → IsJudged text old (Err e) → IsJudged (text ++ piece) new (Err e)
  still_stopped text piece old new e (inl none) = inl none
  still_stopped text piece old new e (inr stopped) = inr (run-append text piece (start []) ∙ ap (then_run (run piece)) stopped)

  -- what feeding a piece says
  abbrev pub Fed : List ℕ → Judge A → Judge A → Result ⊤ WorkError → Type 0
  Fed piece old new result =
      MatchResult result
      (λ _. (run piece (state_of old) ≡ Ok (state_of new)) × IsHeld new)
      (λ e. ((e ≡ OutOfMemory) × Grows (state_of old) piece) ⊎ (run piece (state_of old) ≡ Err e))

  pub judged_on : (text piece : List ℕ) (old new : Judge A) (x : ⊤) (result : Result ⊤ WorkError) → Fed piece old new result
      → IsJudged text old (Ok x) → IsJudged (text ++ piece) new result
  judged_on text piece old new x (Ok y) fed before = (run-append text piece (start []) ∙ ap (then_run (run piece)) before.0 ∙ fed.0, fed.1)
  judged_on text piece old new x (Err e) (inl none) before = inl none.0
  judged_on text piece old new x (Err e) (inr stopped) before = inr (run-append text piece (start []) ∙ ap (then_run (run piece)) before.0 ∙ stopped)

  pub held_if : (text : List ℕ) (judge : Judge A) (judged : Result ⊤ WorkError) → IsJudged text judge judged → OnOk judged (IsHeld judge)
  held_if text judge (Ok x) is = is.1
  held_if text judge (Err e) is = tt

-- bytes that were read, and what they show of an error
abbrev pub Shows : Option (List ℕ) → Option (List ℕ) → WorkError → Type 0
Shows old new e = (bytes : List ℕ) × Consumes old new bytes × (length bytes ≤ TEXT_BYTES + 1) × IsReadError bytes e × EndsAt new e

-- what the fault of bytes shows
shown_fault : (old new : Option (List ℕ)) (bytes : List ℕ) (e : WorkError) → Consumes old new bytes → IsAtEnd new → length bytes ≤ TEXT_BYTES
    → (e ≡ OutOfMemory) ⊎ IsFault bytes e → Shows old new e
shown_fault old new bytes e gone end_ short (inl none) = subst (Shows old new) (sym none) (bytes, gone, omega arith, tt, tt)
shown_fault old new bytes (Form n) gone end_ short (inr fault) = (bytes, gone, omega arith, fault, end_)
shown_fault old new bytes (Limit n) gone end_ short (inr fault) = (bytes, gone, omega arith, fault, end_)
shown_fault old new bytes Long gone end_ short (inr fault) = (bytes, gone, omega arith, fault, tt)
shown_fault old new bytes Read gone end_ short (inr fault) = absurd fault.1
shown_fault old new bytes OutOfMemory gone end_ short (inr fault) = absurd fault.1

-- and of all that the reader had
known_fault : (old new : Option (List ℕ)) (bytes : List ℕ) (e : WorkError) → Consumes old new bytes → IsAtEnd new → (e ≡ OutOfMemory) ⊎ IsFault bytes e
    → IfSome old (λ all. (e ≡ Read) ⊎ ((e ≡ OutOfMemory) ⊎ IsFault all e))
known_fault None new bytes e gone end_ fault = tt
known_fault (Some all) None bytes e gone end_ fault = absurd gone
known_fault (Some all) (Some rest) bytes e gone end_ fault =
    let same : all ≡ bytes = gone ∙ ap (λ r. bytes ++ r) end_ ∙ append-nil bytes in
    inr (subst (λ t. (e ≡ OutOfMemory) ⊎ IsFault t e) (sym same) fault)

-- at the end of the reader
pub record AtEnd (old new : Option (List ℕ)) (text : List ℕ) : Type 0 where
  pub gone : Consumes old new text
  pub end_ : IsAtEnd new
  pub short : length text ≤ TEXT_BYTES

-- a call that brought no byte
pub nothing_more : (old before new : Option (List ℕ)) (text buf : List ℕ) (len : ℕ) → Consumes old before text → Consumes before new (take len buf) → len ≡ 0 → IsAtEnd new
    → length text ≤ TEXT_BYTES → AtEnd old new text
nothing_more old before new text buf len gone came none end_ short =
    record {
      gone = subst (Consumes old new) (append-nil text) (Consumes-trans old before new text [] gone (subst (λ n. Consumes before new (take n buf)) none came));
      end_ = end_;
      short = short;
    }

module _ {A : Type 0} (old new : Option (List ℕ)) (text : List ℕ) (judge : Judge A) (is : AtEnd old new text) where
  pub end_held : (judged : Result ⊤ WorkError) → IsJudged text judge judged
      → OnOk judged ((read : List ℕ) × (run read (start []) ≡ Ok (state_of judge)) × IsHeld judge × Consumes old new read × IsAtEnd new × (length read ≤ TEXT_BYTES))
  end_held (Ok x) judges = (text, judges.0, judges.1, is.gone, is.end_, is.short)
  end_held (Err e) judges = tt

  end_stopped : (e : WorkError) → IsJudged text judge (Err e) → (e ≡ OutOfMemory) ⊎ IsFault text e
  end_stopped e (inl none) = inl none
  end_stopped e (inr stopped) = inr (faulty text e is.short stopped)

  pub end_known : (judged : Result ⊤ WorkError) → IsJudged text judge judged → IfErr judged (λ e. IfSome old (λ all. (e ≡ Read) ⊎ ((e ≡ OutOfMemory) ⊎ IsFault all e)))
  end_known (Ok x) judges = tt
  end_known (Err e) judges = known_fault old new text e is.gone is.end_ (end_stopped e judges)

  pub end_shown : (judged : Result ⊤ WorkError) → IsJudged text judge judged → IfErr judged (λ e. Shows old new e)
  end_shown (Ok x) judges = tt
  end_shown (Err e) judges = shown_fault old new text e is.gone is.end_ is.short (end_stopped e judges)

-- a piece with which the bytes are too many
pub too_many : (old before new : Option (List ℕ)) (text piece : List ℕ) → Consumes old before text → Consumes before new piece → TEXT_BYTES < length text + length piece
    → IfSome old (λ all. (Long ≡ Read) ⊎ ((Long ≡ OutOfMemory) ⊎ IsFault all Long))
too_many None before new text piece gone came many = tt
too_many (Some all) before None text piece gone came many = absurd (Consumes-trans (Some all) before None text piece gone came)
too_many (Some all) before (Some rest) text piece gone came many =
    let whole : all ≡ (text ++ piece) ++ rest = Consumes-trans (Some all) before (Some rest) text piece gone came in
    inr (inr (omega (arith, ap length whole, length-append (text ++ piece) rest, length-append text piece)))

pub shows_long : (old before new : Option (List ℕ)) (text piece : List ℕ) → Consumes old before text → Consumes before new piece → TEXT_BYTES < length text + length piece
    → length text + length piece ≤ TEXT_BYTES + 1 → Shows old new Long
shows_long old before new text piece gone came many few = (
  text ++ piece,
  Consumes-trans old before new text piece gone came,
  omega (arith, length-append text piece),
  omega (arith, length-append text piece),
  tt,
)

-- where no memory is left for a piece, nothing was read
pub no_piece : (old : Option (List ℕ)) (result : Result ⊤ WorkError) → IsErrAnd result (λ e. e ≡ OutOfMemory) → IfErr result (λ e. Shows old old e)
no_piece old (Ok x) is = tt
no_piece old (Err e) is = subst (Shows old old) (sym is) ([], Consumes-nil old, omega arith, tt, tt)

-- the text that was read to its end
pub end_shows : (old new : Option (List ℕ)) (text : List ℕ) (s : State) (result : Result WorkloadView WorkError) → Consumes old new text → run text (start []) ≡ Ok s
    → length text ≤ TEXT_BYTES → Ends s result
    → (bytes : List ℕ) × Consumes old new bytes × (length bytes ≤ TEXT_BYTES + 1) × IsReading bytes result
end_shows old new text s (Ok w) gone came short ends = (text, gone, omega arith, text_from_run w text s came ends.0 ends.1 short)
end_shows old new text s (Err e) gone came short ends =
    (text, gone, omega arith, reading_fault text e (length s.lines + 1) ends.1 (short_fault text e short (end_line_fault text s e came ends)))
  where
    reading_fault : (bytes : List ℕ) (f : WorkError) (n : ℕ) → f ≡ Form n → IsFault bytes f → IsReadError bytes f
    reading_fault bytes f n is fault = subst (IsReadError bytes) (sym is) (subst (IsFault bytes) is fault)

-- where no line is missing, or one is, the reader is at its end
pub end_ends : (new : Option (List ℕ)) (s : State) (result : Result WorkloadView WorkError) → IsAtEnd new → Ends s result → ReadsToItsEnd new result
end_ends new s (Ok w) end_ ends = end_
end_ends new s (Err e) end_ ends = subst (EndsAt new) (sym ends.1) end_

-- nothing is owed for an answer that does not come, and what holds anyway also holds then
module _ {T E : Type 0} where
  pub no_answer : (r : Result T E) (P : Type 0) → IsErr r → OnOk r P
  no_answer (Ok x) P h = cc
  no_answer (Err e) P h = tt

  pub whatever : (r : Result T E) (P : Type 0) → P → OnOk r P
  whatever (Ok x) P h = h
  whatever (Err e) P h = tt

-- the reader failed, whatever bytes it had
pub read_failed : (old : Option (List ℕ)) → IfSome old (λ bytes. (Read ≡ Read) ⊎ ((Read ≡ OutOfMemory) ⊎ IsFault bytes Read))
read_failed None = tt
read_failed (Some bytes) = inl refl

-- the fault of all bytes is an answer to them, unless the reader failed
pub fault_answers : (old : Option (List ℕ)) (e : WorkError) → IfSome old (λ bytes. (e ≡ Read) ⊎ ((e ≡ OutOfMemory) ⊎ IsFault bytes e))
    → IfSome old (λ bytes. (◌≡◌ {A = Result WorkloadView WorkError} (Err e) (Err Read)) ⊎ IsReadAnswer bytes (Err e))
fault_answers None e fault = tt
fault_answers (Some bytes) e (inl failed) = inl (ap Err failed)
fault_answers (Some bytes) e (inr fault) = inr fault

-- the answer at the end of all that the reader had
pub all_answered : (old new : Option (List ℕ)) (text : List ℕ) (s : State) (result : Result WorkloadView WorkError) → Consumes old new text → IsAtEnd new
    → run text (start []) ≡ Ok s → length text ≤ TEXT_BYTES → Ends s result
    → IfSome old (λ bytes. (result ≡ Err Read) ⊎ IsReadAnswer bytes result)
all_answered None new text s result gone at_end came short ends = tt
all_answered (Some bytes) None text s result gone at_end came short ends = absurd gone
all_answered (Some bytes) (Some rest) text s result gone at_end came short ends =
    let all : bytes ≡ text = gone ∙ ap (λ r. text ++ r) at_end ∙ append-nil text in
    inr (subst (λ t. IsReadAnswer t result) (sym all) (by result ends))
  where
    by : (r : Result WorkloadView WorkError) → Ends s r → IsReadAnswer text r
    by (Ok w) told = text_from_run w text s came told.0 told.1 short
    by (Err e) told = inr (short_fault text e short (end_line_fault text s e came told))

one_number : (numbers : List ℕ) → length numbers ≡ 1 → (n : ℕ) × (numbers ≡ n ∷ [])
one_number [] one = absurd (omega arith)
one_number (n ∷ []) one = (n, refl)
one_number (n ∷ m ∷ numbers) one = absurd (omega arith)

four_lines : (a b c d w x y z : List ℕ) (rest : List (List ℕ)) → a ≡ w → b ≡ x → c ≡ y → d ≡ z → ◌≡◌ {A = List (List ℕ)} (a ∷ b ∷ c ∷ d ∷ rest) (w ∷ x ∷ y ∷ z ∷ rest)
four_lines a b c d w x y z rest one two three four = rw (one, two, three, four) refl

-- all lines are those of a workload
workload_of : (lines : List (List ℕ)) → AreLines [] lines → is_whole lines ≡ true → (w : WorkloadView) × (lines ≡ lines_of_view w)
workload_of [] good whole = cc
workload_of (pes ∷ []) good whole = cc
workload_of (pes ∷ rounds ∷ []) good whole = cc
workload_of (pes ∷ rounds ∷ pad ∷ []) good whole = cc
workload_of (pes ∷ rounds ∷ pad ∷ chares ∷ amounts) (_, p, (_, r, (_, d, (_, n, _)))) whole =
    let some_pes = one_number pes p.formed.counted in
    let some_rounds = one_number rounds r.formed.counted in
    let some_pad = one_number pad d.formed.counted in
    let some_chares = one_number chares n.formed.counted in (
      record { pes = some_pes.0; rounds = some_rounds.0; pad = some_pad.0; chares = some_chares.0; amounts = amounts },
      four_lines pes rounds pad chares (some_pes.0 ∷ []) (some_rounds.0 ∷ []) (some_pad.0 ∷ []) (some_chares.0 ∷ []) amounts some_pes.1 some_rounds.1 some_pad.1 some_chares.1,
    )

-- bytes are a text, or have a fault
pub text_or_fault : (bytes : List ℕ) → ((w : WorkloadView) × IsText w bytes) ⊎ ((e : WorkError) × IsFault bytes e)
text_or_fault bytes =
    elim (cases_lt TEXT_BYTES (length bytes)) [
      | inl long ↦ inr (Long, long)
      | inr short ↦ by short (run bytes (start [])) refl
    ]
  where
    by : length bytes ≤ TEXT_BYTES → (r : Result State WorkError) → run bytes (start []) ≡ r → ((w : WorkloadView) × IsText w bytes) ⊎ ((e : WorkError) × IsFault bytes e)
    by short (Err e) stopped = inr (e, faulty bytes e short stopped)
    by short (Ok s) came =
        elim (cases_Bool (is_whole s.lines)) [
          | inl whole ↦
              let ends = end_whole s bytes (subst (After [] bytes) came (after_start [] bytes)) whole in
              let w = workload_of s.lines ends.0 whole in
              inl (w.0, text_from_run w.0 bytes s came whole w.1 short)
          | inr open_ ↦
              let e : WorkError = Form (length s.lines + 1) in
              inr (e, short_fault bytes e short (end_line_fault bytes s e came (open_, refl)))
        ]

-- no byte of a text is reported as a reader that failed
not_read : {A : Type 0} (text : List ℕ) (judge : Judge A) (e : WorkError) → IsJudged text judge (Err e) → e ≡ Read → ⊥
not_read text judge e (inl none) is = let h : Read ≡ OutOfMemory = sym is ∙ none in cc
not_read text judge e (inr stopped) is = subst (IsLineFault text) is (line_fault text e stopped)

pub end_unread : {A : Type 0} (text : List ℕ) (judge : Judge A) (judged : Result ⊤ WorkError) (P : Type 0) → IsJudged text judge judged
    → IfErr judged (λ e. e ≡ Read → P)
end_unread text judge (Ok x) P judges = tt
end_unread text judge (Err e) P judges = λ is. absurd (not_read text judge e judges is)

-- nor is the end of a text
pub ends_unread : (s : State) (result : Result WorkloadView WorkError) (P : Type 0) → Ends s result → IsErrOf result Read → P
ends_unread s result P ends is = absurd (let h : Read ≡ Form (length s.lines + 1) = (subst (λ (r : Result WorkloadView WorkError). Ends s r) is ends).1 in cc)

-- what holds of any error
pub on_error : {T E : Type 0} (r : Result T E) (Q : E → Type 0) (P : Type 0) → P → IfErr r (λ e. Q e → P)
on_error (Ok x) Q P holds = tt
on_error (Err e) Q P holds = λ _. holds

-- an error passed on is the one that the call returned
pub passed_on : {T : Type 0} (r : Result T WorkError) (error e : WorkError) (P : Type 0) → IsErrAnd r (λ f. f ≡ error) → (error ≡ e → P) → IsErrOf r e → P
passed_on (Ok x) error e P is then failed = absurd is
passed_on (Err f) error e P is then failed = then (cc)
