-- The text of a list of events by its lines: which lists and which faults bytes have.
use Rattle.std.proofs.Common.{◌≡◌, ℕ, zero, suc, ◌+◌, ◌<◌, ◌≤◌, ◌⊎◌, List, [], ◌∷◌, ◌++◌, length, take, get_or, Option, Some, None}
use Rattle.std.proofs.Common.{refl, sym, ap, subst, ◌∙◌, inl, inr, arith, append_assoc, length-append}
use Rattle.std.specs.Prelude.{All, IfSome}
use Rattle.std.proofs.lemmas.Bool.{cases_lt}
use Rattle.std.proofs.lemmas.List.{append-nil, length_push, take_more}
use Rattle.std.proofs.lemmas.List.Concat.{flat_map-append}
use Rattle.std.proofs.lemmas.List.Elements.{All-nil, All-head, All-tail, All-push}
use Rattle.chare_index.specs.declared.limits.TheConstants.Limits.{ELEMENTS, PES}
use Rattle.rts_core.specs.declared.event.Event.{Event}
use Rattle.rts_core.specs.Events.{pe_of}
use Rattle.event_lists.specs.declared.error.EventListError.{EventListError}
use Rattle.event_lists.specs.declared.error.EventListError.TheVariants.{Form, Limit, TooLong, OutOfMemory}
use Rattle.event_lists.specs.declared.form.TheConstants.EventListLimits.{EVENTS}
use Rattle.event_lists.specs.Text.{event_line, events_text, element_of, IsWithin, IsText}
use Rattle.event_lists.specs.Faults.{IsMalformed, IsPast, IsFault}
use Rattle.event_lists.specs.Reading.{NeedsMemory, IsRefusal}
use Rattle.event_lists.specs.Lines.{Line, line_at, line_event}
use Rattle.event_lists.proofs.Lines.{event_reads, within_formed, one_line, malformed, past, spelled_line}

-- no line of an event in its range begins these bytes
abbrev pub NoLine : List ℕ → Type 0
NoLine bytes = (event : Event) (tail : List ℕ) → IsWithin event → bytes ≡ event_line event ++ tail → ⊥

none_of_nothing : NoLine []
none_of_nothing event tail within spelled =
    let reads = event_reads event tail (within_formed event within) in
    let read : line_at [] ≡ Some reads.line = ap line_at spelled ∙ reads.read in
    cc

none_of_malformed : (bytes : List ℕ) → IsMalformed bytes → NoLine bytes
none_of_malformed bytes is event tail within spelled = is event tail (within_formed event within) spelled

none_of_past : (bytes : List ℕ) → IsPast bytes → NoLine bytes
none_of_past bytes is event tail within spelled =
    let same = one_line event is.event tail is.tail (within_formed event within) is.formed (sym spelled ∙ is.spelled) in
    is.past (subst IsWithin same.0 within)

-- where a reader stops: after good lines there is no other one, or they are as many as may be
pub record Stop (bytes : List ℕ) : Type 0 where
  pub events : List Event
  pub rest : List ℕ
  pub spelled : bytes ≡ events_text events ++ rest
  pub within : All IsWithin events
  pub few : length events ≤ EVENTS
  pub last : length events < EVENTS → NoLine rest

-- There is only one such place. `before` lines came before these.
one_stop : (before : ℕ) (a b : List Event) (r s : List ℕ) → All IsWithin a → All IsWithin b → before + length a ≤ EVENTS → before + length b ≤ EVENTS
    → (before + length a < EVENTS → NoLine r) → (before + length b < EVENTS → NoLine s) → events_text a ++ r ≡ events_text b ++ s → (a ≡ b) × (r ≡ s)
one_stop before [] [] r s a_within b_within a_few b_few a_last b_last same = (refl, same)
one_stop before [] (y ∷ b) r s a_within b_within a_few b_few a_last b_last same =
    absurd (a_last (omega arith) y (events_text b ++ s) (All-head IsWithin y b b_within) (same ∙ append_assoc (event_line y) (events_text b) s))
one_stop before (x ∷ a) [] r s a_within b_within a_few b_few a_last b_last same =
    absurd (b_last (omega arith) x (events_text a ++ r) (All-head IsWithin x a a_within) (sym same ∙ append_assoc (event_line x) (events_text a) r))
one_stop before (x ∷ a) (y ∷ b) r s a_within b_within a_few b_few a_last b_last same =
    let x_within = All-head IsWithin x a a_within in
    let y_within = All-head IsWithin y b b_within in
    let heads = one_line x y (events_text a ++ r) (events_text b ++ s) (within_formed x x_within) (within_formed y y_within)
    (sym (append_assoc (event_line x) (events_text a) r) ∙ same ∙ append_assoc (event_line y) (events_text b) s) in
    let later = one_stop (before + 1) a b r s (All-tail IsWithin x a a_within) (All-tail IsWithin y b b_within) (omega arith) (omega arith)
    (λ few. a_last (omega arith)) (λ few. b_last (omega arith)) heads.1 in
    (joined x y a b heads.0 later.0, later.1)
  where
    joined : (v w : Event) (c d : List Event) → v ≡ w → c ≡ d → v ∷ c ≡ w ∷ d
    joined v w c d one two = rw (one, two) refl

same_stop : (bytes : List ℕ) (a b : Stop bytes) → (a.events ≡ b.events) × (a.rest ≡ b.rest)
same_stop bytes a b =
    one_stop 0 a.events b.events a.rest b.rest a.within b.within (omega (arith, a.few)) (omega (arith, b.few))
    (λ few. a.last (omega arith)) (λ few. b.last (omega arith)) (sym a.spelled ∙ b.spelled)

-- a text, and each fault, is such a place
text_stop : (events : List Event) (bytes : List ℕ) → IsText events bytes → Stop bytes
text_stop events bytes is =
    record { events = events; rest = []; spelled = is.spelled ∙ sym (append-nil (events_text events)); within = is.within; few = is.few; last = λ _. none_of_nothing }

form_stop : (bytes : List ℕ) (n : ℕ) → IsFault bytes (Form n) → Stop bytes
form_stop bytes n is =
    record {
      events = is.events;
      rest = is.rest;
      spelled = is.spelled;
      within = is.within;
      few = omega (arith, is.why.0.0, is.why.0.1);
      last = λ _. none_of_malformed is.rest is.why.1;
    }

limit_stop : (bytes : List ℕ) (n : ℕ) → IsFault bytes (Limit n) → Stop bytes
limit_stop bytes n is =
    record {
      events = is.events;
      rest = is.rest;
      spelled = is.spelled;
      within = is.within;
      few = omega (arith, is.why.0.0, is.why.0.1);
      last = λ _. none_of_past is.rest is.why.1;
    }

long_stop : (bytes : List ℕ) → IsFault bytes TooLong → Stop bytes
long_stop bytes is =
    record { events = is.events; rest = is.rest; spelled = is.spelled; within = is.within; few = omega (arith, is.why); last = λ few. absurd (omega (arith, is.why)) }

-- bytes are the text of one list
pub one_list : (a b : List Event) (bytes : List ℕ) → IsText a bytes → IsText b bytes → a ≡ b
unfolding text_stop
one_list a b bytes one other = (same_stop bytes (text_stop a bytes one) (text_stop b bytes other)).0

-- a list has one text
pub one_text : (events : List Event) (a b : List ℕ) → IsText events a → IsText events b → a ≡ b
one_text events a b one other = one.spelled ∙ sym other.spelled

-- what a list has where it is written
pub written : (events : List Event) → All IsWithin events → length events ≤ EVENTS → IsText events (events_text events)
written events within few = record { spelled = refl; within = within; few = few }

-- a text has no fault: nothing is after its lines
pub no_fault : (events : List Event) (bytes : List ℕ) (e : EventListError) → IsText events bytes → IsFault bytes e → ⊥
unfolding text_stop form_stop limit_stop long_stop
no_fault events bytes (Form n) is fault = omega (arith, fault.more, ap length (same_stop bytes (text_stop events bytes is) (form_stop bytes n fault)).1)
no_fault events bytes (Limit n) is fault = omega (arith, fault.more, ap length (same_stop bytes (text_stop events bytes is) (limit_stop bytes n fault)).1)
no_fault events bytes TooLong is fault = omega (arith, fault.more, ap length (same_stop bytes (text_stop events bytes is) (long_stop bytes fault)).1)
no_fault events bytes OutOfMemory is fault = fault

-- two faults of a line
form_or_limit : (bytes : List ℕ) (n m : ℕ) → IsFault bytes (Form n) → IsFault bytes (Limit m) → ⊥
unfolding form_stop limit_stop
form_or_limit bytes n m form limit =
    let same = (same_stop bytes (form_stop bytes n form) (limit_stop bytes m limit)).1 in
    let is : IsPast form.rest = subst IsPast (sym same) limit.why.1 in
    form.why.1 is.event is.tail is.formed is.spelled

-- bytes have one fault at most
pub one_fault : (bytes : List ℕ) (e f : EventListError) → IsFault bytes e → IsFault bytes f → e ≡ f
unfolding form_stop limit_stop long_stop
one_fault bytes (Form n) (Form m) one other =
    let same = ap length (same_stop bytes (form_stop bytes n one) (form_stop bytes m other)).0 in
    let number : n ≡ m = omega (arith, same, one.why.0.0, other.why.0.0) in
    ap Form number
one_fault bytes (Form n) (Limit m) one other = absurd (form_or_limit bytes n m one other)
one_fault bytes (Form n) TooLong one other =
    absurd (omega (arith, ap length (same_stop bytes (form_stop bytes n one) (long_stop bytes other)).0, one.why.0.0, one.why.0.1, other.why))
one_fault bytes (Limit n) (Form m) one other = absurd (form_or_limit bytes m n other one)
one_fault bytes (Limit n) (Limit m) one other =
    let same = ap length (same_stop bytes (limit_stop bytes n one) (limit_stop bytes m other)).0 in
    let number : n ≡ m = omega (arith, same, one.why.0.0, other.why.0.0) in
    ap Limit number
one_fault bytes (Limit n) TooLong one other =
    absurd (omega (arith, ap length (same_stop bytes (limit_stop bytes n one) (long_stop bytes other)).0, one.why.0.0, one.why.0.1, other.why))
one_fault bytes TooLong (Form m) one other =
    absurd (omega (arith, ap length (same_stop bytes (form_stop bytes m other) (long_stop bytes one)).0, other.why.0.0, other.why.0.1, one.why))
one_fault bytes TooLong (Limit m) one other =
    absurd (omega (arith, ap length (same_stop bytes (limit_stop bytes m other) (long_stop bytes one)).0, other.why.0.0, other.why.0.1, one.why))
one_fault bytes TooLong TooLong one other = refl
one_fault bytes OutOfMemory f one other = absurd one
one_fault bytes (Form n) OutOfMemory one other = absurd other
one_fault bytes (Limit n) OutOfMemory one other = absurd other
one_fault bytes TooLong OutOfMemory one other = absurd other

-- whether an event is in its range
below_or : (o : Option ℕ) (n : ℕ) → IfSome o (λ k. k < n) ⊎ (IfSome o (λ k. k < n) → ⊥)
below_or None n = inl tt
below_or (Some k) n =
    elim (cases_lt k n) [
      | inl low ↦ inl low
      | inr high ↦ inr (λ low. omega arith)
    ]

within_or : (event : Event) → IsWithin event ⊎ (IsWithin event → ⊥)
within_or event =
    elim (below_or (pe_of event) PES) [
      | inl pe ↦ elim (below_or (element_of event) ELEMENTS) [
        | inl element ↦ inl (pe, element)
        | inr past_element ↦ inr (λ is. past_element is.1)
      ]
      | inr past_pe ↦ inr (λ is. past_pe is.0)
    ]

-- one more line
pub lines_push : (events : List Event) (event : Event) (rest : List ℕ) → events_text (events ++ event ∷ []) ++ rest ≡ events_text events ++ (event_line event ++ rest)
lines_push events event rest =
    ap (λ t. t ++ rest) (flat_map-append event_line events (event ∷ []) ∙ ap (λ t. events_text events ++ t) (append-nil (event_line event)))
    ∙ append_assoc (events_text events) (event_line event) rest

some_line : (event : Event) → IsWithin event → 0 < length (event_line event)
some_line event within = by (event_line event) refl
  where
    by : (line : List ℕ) → event_line event ≡ line → 0 < length line
    by [] none = absurd (none_of_nothing event [] within (sym (append-nil (event_line event) ∙ none)))
    by (b ∷ line) some = omega arith

-- what bytes are
abbrev Judged : List ℕ → Type 0
Judged bytes = ((events : List Event) × IsText events bytes) ⊎ ((e : EventListError) × IsFault bytes e)

judged : (most : ℕ) (bytes : List ℕ) (events : List Event) (rest : List ℕ) → length rest ≤ most → bytes ≡ events_text events ++ rest → All IsWithin events → length events ≤ EVENTS
    → Judged bytes
judged most bytes events [] short spelled within few = inl (events, record { spelled = spelled ∙ append-nil (events_text events); within = within; few = few })
judged zero bytes events (b ∷ rest) short spelled within few = absurd (omega arith)
judged (suc most) bytes events (b ∷ rest) short spelled within few =
    elim (cases_lt (length events) EVENTS) [
      | inl more ↦ by_line more (line_at (b ∷ rest)) refl (judged most bytes)
      | inr full ↦ inr (TooLong, record { events = events; rest = b ∷ rest; spelled = spelled; within = within; more = omega arith; why = omega arith })
    ]
  where
    by_line : length events < EVENTS → (o : Option Line) → line_at (b ∷ rest) ≡ o
        → ((ev : List Event) (r : List ℕ) → length r ≤ most → bytes ≡ events_text ev ++ r → All IsWithin ev → length ev ≤ EVENTS → Judged bytes) → Judged bytes
    by_line more None none later =
        inr (
          Form (length events + 1),
          record {
            events = events;
            rest = b ∷ rest;
            spelled = spelled;
            within = within;
            more = omega arith;
            why = ((refl, omega arith), malformed (b ∷ rest) none);
          },
        )
    by_line more (Some line) read later =
        elim (within_or (line_event line)) [
          | inl good ↦
              let is = spelled_line (b ∷ rest) line read in
              later (events ++ line_event line ∷ []) line.rest
              (omega (arith, ap length is, length-append (event_line (line_event line)) line.rest, some_line (line_event line) good))
              (spelled ∙ ap (λ t. events_text events ++ t) is ∙ sym (lines_push events (line_event line) line.rest))
              (All-push IsWithin events (line_event line) within good)
              (omega (arith, length_push events (line_event line)))
          | inr outside ↦
              inr (
                Limit (length events + 1),
                record {
                  events = events;
                  rest = b ∷ rest;
                  spelled = spelled;
                  within = within;
                  more = omega arith;
                  why = ((refl, omega arith), past (b ∷ rest) line read outside);
                },
              )
        ]

-- bytes are a text, or have a fault
pub text_or_fault : (bytes : List ℕ) → Judged bytes
text_or_fault bytes = judged (length bytes) bytes [] bytes (omega arith) refl (All-nil IsWithin) (omega arith)

-- a text is refused only where memory is, and other bytes for that or for their fault
pub refusal_again : (events : List Event) (bytes : List ℕ) (e : EventListError) → IsRefusal bytes e → IsText events bytes → e ≡ OutOfMemory
refusal_again events bytes e refused is =
    elim refused [
      | inl none ↦ none.0
      | inr fault ↦ absurd (no_fault events bytes e is fault)
    ]

pub refusal_first : (bytes : List ℕ) (e f : EventListError) → IsRefusal bytes f → IsFault bytes e → (f ≡ OutOfMemory) ⊎ (f ≡ e)
refusal_first bytes e f refused fault =
    elim refused [
      | inl none ↦ inl none.0
      | inr also ↦ inr (one_fault bytes f e also fault)
    ]

-- memory is requested after the first line
pub needs_memory : (events : List Event) (bytes rest : List ℕ) (event : Event) (tail : List ℕ) → All IsWithin events → bytes ≡ events_text events ++ rest
    → rest ≡ event_line event ++ tail → IsWithin event → NeedsMemory bytes
needs_memory [] bytes rest event tail within spelled next good = record { event = event; tail = tail; spelled = spelled ∙ next; within = good }
needs_memory (first ∷ events) bytes rest event tail within spelled next good =
    record {
      event = first;
      tail = events_text events ++ rest;
      spelled = spelled ∙ append_assoc (event_line first) (events_text events) rest;
      within = All-head IsWithin first events within;
    }

-- one more line is written
pub written_more : (events : List Event) (i : ℕ) (event : Event) (before old new : List ℕ) → event ≡ get_or events i event → i < length events → IsWithin event
    → old ≡ before ++ events_text (take i events) → new ≡ old ++ event_line event → All IsWithin (take i events)
    → (new ≡ before ++ events_text (take (i + 1) events)) × All IsWithin (take (i + 1) events)
written_more events i event before old new is inside good was now all =
    let more : take (i + 1) events ≡ take i events ++ event ∷ [] = take_more events i event inside ∙ ap (λ e. take i events ++ e ∷ []) (sym is) in (
      now
          ∙ ap (λ t. t ++ event_line event) was
          ∙ append_assoc before (events_text (take i events)) (event_line event)
          ∙ ap (λ t. before ++ t) (ap (λ t. events_text (take i events) ++ t) (sym (append-nil (event_line event))) ∙ sym (lines_push (take i events) event [])
          ∙ append-nil (events_text (take i events ++ event ∷ [])) ∙ ap events_text (sym more)),
      subst (All IsWithin) (sym more) (All-push IsWithin (take i events) event all good),
    )

-- the laws of the text
pub ruleset text_laws = (written, one_list, one_text, one_fault, no_fault)
