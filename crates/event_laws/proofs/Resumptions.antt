-- Resumptions are in journals: the resumptions in the trace entries of a PE's step are those that the journals
-- of its elements gain.
use Rattle.std.proofs.Common.{◌≡◌, ℕ, ◌+◌, List, [], ◌∷◌, ◌++◌, Option, Some, None, Bool, true, false, sum_by, append-nil, arith, refl, ap, ◌∙◌}
use Rattle.std.specs.Prelude.{slice_set, ◌&&◌, ◌==◌, if◌then◌else◌}
use Rattle.std.proofs.lemmas.Grind.{flat_map-append}
use Rattle.std.proofs.lemmas.List.Sums.{sum_by-cons, sum_by_push}
use Rattle.chares.specs.declared.entry.Entry.TheVariants.{Letter as OfLetter, Resumption}
use Rattle.chares.specs.declared.note.Note.{Note}
use Rattle.chares.specs.declared.note.Note.TheVariants.{Sync, Finish}
use Rattle.chares.specs.declared.trace_entry.TraceEntry.{TraceEntry}
use Rattle.chares.specs.declared.trace_entry.TraceEntry.TheVariants as Trace
use Rattle.chares.specs.Elements.{ElementView}
use Rattle.chares.specs.Letters.{LetterView, Done}
use Rattle.chares.specs.Posting.{posts_of}
use Rattle.chares.specs.Steps.{Step}
use Rattle.chares.specs.Orders.{resumption_of, resumptions}
use Rattle.pe_state.specs.Pes.{PeView, Parcel, gave_up, received, looked, noted, departed, resumed, resume_entries, executed, shelving, forwarding, installed}
use Rattle.pe_state.specs.Rooms.{found, sends_in}
use Rattle.rts_core.specs.Accounts.{times}
use Rattle.rts_core.specs.Events.{LocalView, note_entries}
use Rattle.rts_core.specs.Places.{Life}
use Rattle.rts_core.proofs.EventSteps.{note_posts, note_executes}
use Rattle.rts_core.proofs.HandlerSteps.{resumed_moved, departed_moved}
use Rattle.rts_core.proofs.Listings.{no_letter, sum_zero}
use Rattle.rts_core.proofs.Moves.{Work, Moved, work_letters, posted, before, after, looked_moved, gave_up_moved, received_moved, noted_moved}
use Rattle.rts_core.proofs.Weights.{weigh, of_parcel, of_pe, of_queue}
use Rattle.rts_core.proofs.WorldSteps.{sum_at}
use Rattle.event_laws.specs.Barrier.{is_resumed}
use Rattle.event_laws.proofs.ActHandlers.{shelves_still, forwards_still, executes_letter, installs_still}
use Rattle.event_laws.proofs.OrderedRounds.{FitsInOrder, Ordered}
use Rattle.rts_core.proofs.Rooms.{each_found}
use Rattle.event_laws.proofs.Tallies.{one, times-append, times-cons, times_posts}
use Rattle.rts_core.proofs.Turns.{EachTurn}

-- how often the journal of element e has a resumption for round r; 0 of any other element
abbrev pub resumed_in : ℕ → ℕ → Life → ℕ
resumed_in e r life = if life.0 == e then times (λ s. s == r) (resumptions life.1) else 0

counted_where : (b c : Bool) (old new : ℕ) → new ≡ old + (if c then 1 else 0) → (if b then new else 0) ≡ (if b then old else 0) + (if b && c then 1 else 0)
counted_where true c old new h = h
counted_where false c old new h = refl

pub resumption_more : (e r i s : ℕ) (journal : List Done)
    → resumed_in e r (i, journal ++ Resumption s ∷ []) ≡ resumed_in e r (i, journal) + one (is_resumed e r) (Trace.Resumed i s)
resumption_more e r i s journal =
    let test : ℕ → Bool = λ v. v == r in
    let a : times test (resumptions (journal ++ Resumption s ∷ [])) ≡ times test (resumptions journal ++ s ∷ []) = ap (times test)
    (flat_map-append resumption_of journal (Resumption s ∷ [])) in
    let b : times test (resumptions journal ++ s ∷ []) ≡ times test (resumptions journal) + times test (s ∷ []) = times-append test (resumptions journal) (s ∷ []) in
    let c : times test (s ∷ []) ≡ one test s + 0 = times-cons test s [] in
    counted_where (i == e) (s == r) (times test (resumptions journal)) (times test (resumptions (journal ++ Resumption s ∷ []))) (omega (arith, a, b, c))

pub letter_more : (e r i : ℕ) (l : LetterView) (journal : List Done) → resumed_in e r (i, journal ++ OfLetter l ∷ []) ≡ resumed_in e r (i, journal)
letter_more e r i l journal =
    ap (λ (v : List ℕ). if i == e then times (λ s. s == r) v else 0)
    (flat_map-append resumption_of journal (OfLetter l ∷ []) ∙ append-nil (resumptions journal))

-- ---- what each step gains

-- what a local view holds weighs
abbrev pub of_local : {C A : Type 0} → (Life → ℕ) → LocalView C A → ℕ
of_local k d = of_pe no_letter k d.pe + sum_by (of_queue no_letter k) d.queues

-- a step whose resumptions in the trace are what journals gain
abbrev pub Gains : {C A : Type 0} → LocalView C A → LocalView C A × List TraceEntry → Type 0
Gains d a = (e r : ℕ) → of_local (resumed_in e r) a.0 ≡ of_local (resumed_in e r) d + times (is_resumed e r) a.1

module _ {C A : Type 0} (step : Step C) (pack : C → List ℕ) (p : ℕ) (d : LocalView C A) where
  -- a step weighs no letters here
  moved_weighs : (pe' : PeView C) (rs : List TraceEntry) (work : Option (Work C)) (came gone : List Parcel) (k : Life → ℕ) → Moved step d.pe pe' rs work came gone
      → of_pe no_letter k pe' + (before k work + of_queue no_letter k gone) ≡ of_pe no_letter k d.pe + (after k work + of_queue no_letter k came)
  moved_weighs pe' rs work came gone k m =
      let a = m.weighs no_letter k in
      let b : sum_by (weigh no_letter) (work_letters work) ≡ 0 = sum_zero (work_letters work) in
      let c : sum_by (weigh no_letter) (posted step d.pe work) ≡ 0 = sum_zero (posted step d.pe work) in
      omega (arith, a, b, c)

  -- a step that runs no handler, and passes parcels between the PE and the queues
  passes : (d' : LocalView C A) (rs : List TraceEntry) (came gone : List Parcel) → Moved step d.pe d'.pe rs None came gone
      → ((k : Life → ℕ) → sum_by (of_queue no_letter k) d'.queues + of_queue no_letter k came ≡ sum_by (of_queue no_letter k) d.queues + of_queue no_letter k gone)
      → ((e r : ℕ) → times (is_resumed e r) rs ≡ 0) → Gains d (d', rs)
  passes d' rs came gone m through none e r =
      let a = moved_weighs d'.pe rs None came gone (resumed_in e r) m in
      let b = through (resumed_in e r) in
      let c = none e r in
      omega (arith, a, b, c)

  -- a step that runs no handler and passes nothing
  still : (d' : LocalView C A) (rs : List TraceEntry) → Moved step d.pe d'.pe rs None [] [] → d'.queues ≡ d.queues → ((e r : ℕ) → times (is_resumed e r) rs ≡ 0) → Gains d (d', rs)
  still d' rs m same none = passes d' rs [] [] m (λ k. rw same refl) none

  -- a step that runs a handler
  works : (d' : LocalView C A) (rs : List TraceEntry) (el : ElementView C) (done : Done) → Moved step d.pe d'.pe rs (Some (el, done)) [] [] → d'.queues ≡ d.queues
      → ((e r : ℕ) → resumed_in e r (el.index, el.journal ++ done ∷ []) ≡ resumed_in e r (el.index, el.journal) + times (is_resumed e r) rs) → Gains d (d', rs)
  works d' rs el done m same more e r =
      let a = moved_weighs d'.pe rs (Some (el, done)) [] [] (resumed_in e r) m in
      let b : sum_by (of_queue no_letter (resumed_in e r)) d'.queues ≡ sum_by (of_queue no_letter (resumed_in e r)) d.queues = rw same refl in
      let c = more e r in
      omega (arith, a, b, c)

  -- the trace entries of a handler
  first_told : (e r : ℕ) (first : TraceEntry) (me k : ℕ) (sends : List (ℕ × List ℕ)) → times (is_resumed e r) (first ∷ posts_of me k sends) ≡ one (is_resumed e r) first
  first_told e r first me k sends =
      let a = times-cons (is_resumed e r) first (posts_of me k sends) in
      let b = times_posts (is_resumed e r) (λ id to. refl) me k sends in
      omega (arith, a, b)

  note_told : (note : Note) (e r : ℕ) → times (is_resumed e r) (note_entries note) ≡ 0
  note_told (Sync x round units bytes pe) e r = refl
  note_told (Finish x) e r = refl

  module _ (h : Ordered d.pe) where
    resumes : (x round : ℕ) (el : ElementView C) → found x d.pe.room ≡ Some el → Gains d (record d { pe = resumed step pack d.pe x round }, resume_entries step pack d.pe x round)
    resumes x round el at =
        let index : el.index ≡ x = (each_found FitsInOrder x d.pe.room el h.room at).0 in
        works (record d { pe = resumed step pack d.pe x round }) (resume_entries step pack d.pe x round) el (Resumption round) (resumed_moved step pack d.pe x round el at) refl
        (λ e r.
        let a = resumption_more e r el.index round el.journal in
        let b : one (is_resumed e r) (Trace.Resumed el.index round) ≡ one (is_resumed e r) (Trace.Resumed x round) = ap
        (λ (v : ℕ). one (is_resumed e r) (Trace.Resumed v round)) index in
        let c : times (is_resumed e r) (resume_entries step pack d.pe x round) ≡ one (is_resumed e r) (Trace.Resumed x round) = first_told e
        r (Trace.Resumed x round) d.pe.me d.pe.count (sends_in step pack d.pe.room x d.pe.n (Resumption round)) in
        omega (arith, a, b, c))

    pub each_gains : EachTurn step pack p d (Gains d)
    each_gains =
        record {
          starts = λ x el at fresh. resumes x 0 el at;
          goes_on = λ x round el at waits place. resumes x round el at;
          looks = λ word. still (record d { pe = looked d.pe word }) [] (looked_moved step d.pe word) refl (λ e r. refl);
          flushes = λ q parcel queue front at. passes (record d { pe = gave_up d.pe; queues = slice_set d.queues q (queue ++ parcel ∷ []) })
              [] [] (parcel ∷ []) (gave_up_moved step d.pe parcel front)
              (λ k.
              let a = sum_at (of_queue no_letter k) d.queues q queue (queue ++ parcel ∷ []) at in
              let b = sum_by_push (of_parcel no_letter k) queue parcel in
              let c = sum_by-cons (of_parcel no_letter k) parcel [] in
              omega (arith, a, b, c))
              (λ e r. refl);
          delivers = λ queue rest parcel at hand is. passes (record d { pe = received d.pe parcel; queues = slice_set d.queues p rest }) []
              (parcel ∷ []) [] (received_moved step d.pe parcel hand)
              (λ k.
              let a = sum_at (of_queue no_letter k) d.queues p queue rest at in
              let b : of_queue no_letter k queue ≡ of_parcel no_letter k parcel + of_queue no_letter k rest = ap (of_queue no_letter k) is
              ∙ sum_by-cons (of_parcel no_letter k) parcel rest in
              let c = sum_by-cons (of_parcel no_letter k) parcel [] in
              omega (arith, a, b, c))
              (λ e r. refl);
          executes = λ x l el hand is at started. works (record d { pe = (executed step pack d.pe l).pe }) (executed step pack d.pe l).trace
              el (OfLetter l) (executes_letter step pack d.pe x l el hand is at) refl
              (λ e r.
              let a = letter_more e r el.index l el.journal in
              let c : times (is_resumed e r) (executed step pack d.pe l).trace ≡ one (is_resumed e r)
              (Trace.Executed l.id l.to) = first_told e r (Trace.Executed l.id l.to) d.pe.me d.pe.count
              (sends_in step pack d.pe.room l.to d.pe.n (OfLetter l)) in
              omega (arith, a, c));
          shelves = λ x l hand is. still (record d { pe = (shelving d.pe l).pe }) (Trace.Shelved l.id ∷ []) (shelves_still step pack d.pe x l hand is) refl (λ e r. refl);
          forwards = λ x l q hand is. still (record d { pe = (forwarding d.pe l q).pe }) (Trace.Forwarded l.id ∷ [])
              (forwards_still step pack d.pe x l q hand is) refl (λ e r. refl);
          installs = λ x packed chare hand is at. still (record d { pe = installed d.pe packed chare }) (Trace.Installed packed.index ∷ [])
              (installs_still step pack d.pe x packed chare hand is at) refl (λ e r. refl);
          reports = λ note board at taken. still (record d { pe = noted d.pe; board = board }) (note_entries note)
              (noted_moved step d.pe (note_entries note) (note_posts step note) (note_executes step note)) refl (note_told note);
          departs = λ x q el at. still (record d { pe = departed pack d.pe x q; words = slice_set d.words x q }) (Trace.Departed x ∷ [])
              (departed_moved step pack d.pe x q) refl (λ e r. refl);
        }
