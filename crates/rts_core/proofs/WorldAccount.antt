-- The account of a world over one call that makes an event of it, or is refused.
use Rattle.std.proofs.Common.{◌≡◌, ℕ, ◌≤◌, List, [], ◌++◌, length, Result, Ok, Err, sym, subst, replicate}
use Rattle.std.specs.Prelude.{IfOk, OnErr}
use Rattle.chares.specs.declared.trace_entry.TraceEntry.{TraceEntry}
use Rattle.chares.specs.Steps.{Step}
use Rattle.pup_pack.specs.declared.error.PupError.{PupError}
use Rattle.rts_core.specs.declared.event.Event.{Event}
use Rattle.rts_core.specs.Accounts.{Accounted, AreSent, IsCounted}
use Rattle.sync_board.specs.Boards.{BoardState}
use Rattle.pe_state.specs.Pes.{PeView}
use Rattle.rts_core.specs.Events.{Happens, MayDecide, or_nothing, enabled}
use Rattle.rts_core.specs.Histories.{AreHistories}
use Rattle.rts_core.specs.Runs.{Reaches}
use Rattle.rts_core.specs.Worlds.{WorldView, opening_world}
use Rattle.rts_core.proofs.RunAccount.{accounted_next, sent_next, counted_next, opening_sent, opening_counted, kept_accounted}
use Rattle.rts_core.proofs.EventSteps.{enabled_good, decided_good}
use Rattle.rts_core.proofs.OpeningWeights.{opening_of}
use Rattle.rts_core.proofs.RunLaws.{Kept, run_keeps, step_keeps, kept_join}
use Rattle.rts_core.proofs.Sent.{histories_of, sent_step, counted_step}
use Rattle.rts_core.proofs.WorldSteps.{AreOf, Stepped}
use Rattle.sync_board.specs.declared.strategy.Strategy.{Strategy}

module _ {C A E : Type 0} (step : Step C) (fits : C → Type 0) (pack : C → List ℕ) (unpack : List ℕ → Result (C × ℕ) PupError)
    (opened : List C) (pes : ℕ) (strategy : Strategy) (w w' : WorldView C A) (event : Event) where
  -- a world that is accounted for with its trace is so after the event, with its trace entries
  pub accounted_ok : (r : Result (List TraceEntry) E) → 1 ≤ pes → IfOk r (λ reports. Happens step pack unpack w event (w', reports))
      → IfOk r (λ reports. (events : List Event) (trace : List TraceEntry)
      → Reaches step pack unpack (opening_world pes opened strategy) events (w, trace) → Accounted (length opened) w' (trace ++ reports))
  accounted_ok (Ok reports) some ok = λ events trace run. accounted_next step pack unpack pes opened strategy some events w trace event (w', reports) run ok
  accounted_ok (Err e) some ok = tt

  -- what was sent is in places or in journals, after it as before
  pub sent_ok : (r : Result (List TraceEntry) E) → AreHistories step fits pack opened w → AreSent step opened w
      → IfOk r (λ reports. Happens step pack unpack w event (w', reports)) → OnErr r (w' ≡ w) → AreSent step opened w'
  sent_ok (Ok reports) are sent ok err = sent_next step fits pack unpack opened w event (w', reports) are sent ok
  sent_ok (Err e) are sent ok err = subst (λ (v : WorldView C A). AreSent step opened v) (sym err) sent

  -- every letter is counted, after it as before
  pub counted_ok : (r : Result (List TraceEntry) E) → AreHistories step fits pack opened w → IsCounted w
      → IfOk r (λ reports. Happens step pack unpack w event (w', reports)) → OnErr r (w' ≡ w) → IsCounted w'
  counted_ok (Ok reports) are count ok err = counted_next step fits pack unpack opened w event (w', reports) are count ok
  counted_ok (Err e) are count ok err = subst (λ (v : WorldView C A). IsCounted v) (sym err) count

module _ {C A : Type 0} (step : Step C) (fits : C → Type 0) (pack : C → List ℕ) (unpack : List ℕ → Result (C × ℕ) PupError)
    (opened : List C) (w w' : WorldView C A) (event : Event) (p : ℕ) where
  -- the letters in places and journals add up to what was sent, after a step of one PE
  pub sent_at : {E : Type 0} (r : Result (List TraceEntry) E) → AreHistories step fits pack opened w → AreSent step opened w
      → IfOk r (λ reports. (w', reports) ≡ or_nothing w (enabled step pack unpack w event p)) → OnErr r (w' ≡ w) → AreSent step opened w'
  sent_at (Ok reports) are sent ok err =
      let of : AreOf (length opened) w = histories_of step fits pack opened w are in
      let s : Stepped step (length opened) w w' reports = subst
      (λ (v : WorldView C A × List TraceEntry). Stepped step (length opened) w v.0 v.1) (sym ok)
      (enabled_good step pack unpack (length opened) w of event p) in
      sent_step step fits pack opened w w' reports are s sent
  sent_at (Err e) are sent ok err = subst (λ (v : WorldView C A). AreSent step opened v) (sym err) sent

  pub counted_at : {E : Type 0} (r : Result (List TraceEntry) E) → AreHistories step fits pack opened w → IsCounted w
      → IfOk r (λ reports. (w', reports) ≡ or_nothing w (enabled step pack unpack w event p)) → OnErr r (w' ≡ w) → IsCounted w'
  counted_at (Ok reports) are count ok err =
      let of : AreOf (length opened) w = histories_of step fits pack opened w are in
      let s : Stepped step (length opened) w w' reports = subst
      (λ (v : WorldView C A × List TraceEntry). Stepped step (length opened) w v.0 v.1) (sym ok)
      (enabled_good step pack unpack (length opened) w of event p) in
      counted_step step (length opened) w w' reports s count
  counted_at (Err e) are count ok err = subst (λ (v : WorldView C A). IsCounted v) (sym err) count

-- a world as it opens
module _ {C A : Type 0} (step : Step C) (pes : ℕ) (chares opened : List C) (strategy : Strategy) (xs : List (PeView C)) (words : List ℕ) (board : BoardState A) where
  pub sent_open : 1 ≤ pes → xs ≡ (opening_world {A = A} pes chares strategy).pes → chares ≡ opened
      → AreSent step opened (record { pes = xs; queues = replicate pes []; words = words; board = board })
  sent_open some is same =
      subst (λ (v : List (PeView C)). AreSent step opened (record { pes = v; queues = replicate pes []; words = words; board = board })) (sym is)
      (subst (λ (v : List C). AreSent step v (record {
        pes = (opening_world {A = A} pes chares strategy).pes;
        queues = replicate pes [];
        words = words;
        board = board;
      })) same (opening_sent A step pes chares strategy some))

  pub counted_open : 1 ≤ pes → xs ≡ (opening_world {A = A} pes chares strategy).pes → IsCounted (record { pes = xs; queues = replicate pes []; words = words; board = board })
  counted_open some is =
      subst (λ (v : List (PeView C)). IsCounted (record { pes = v; queues = replicate pes []; words = words; board = board })) (sym is)
      (opening_counted A step pes chares strategy some)

-- the account after a step of one PE, and after a decision
module _ {C A : Type 0} (step : Step C) (pack : C → List ℕ) (unpack : List ℕ → Result (C × ℕ) PupError) (opened : List C) (pes : ℕ)
    (strategy : Strategy) (w w' : WorldView C A) where
  abbrev pub AccountedAfter : List TraceEntry → Type 0
  AccountedAfter reports = (events : List Event) (trace : List TraceEntry)
      → Reaches step pack unpack (opening_world pes opened strategy) events (w, trace) → Accounted (length opened) w' (trace ++ reports)

  pub accounted_after : (reports : List TraceEntry) → 1 ≤ pes → (AreOf (length opened) w → Stepped step (length opened) w w' reports) → AccountedAfter reports
  accounted_after reports some steps events trace run =
      let a : Kept (length opened) (opening_world pes opened strategy) w trace = run_keeps step pack unpack (length opened)
      (opening_world pes opened strategy) events (w, trace) (opening_of A pes opened strategy some) run in
      let b : Kept (length opened) w w' reports = step_keeps step (length opened) w w' reports (steps a.same_array) in
      kept_accounted step pack unpack pes opened strategy some w' (trace ++ reports) (kept_join (length opened) (opening_world pes opened strategy) w w' trace reports a b)

  pub accounted_at : {E : Type 0} (event : Event) (p : ℕ) (r : Result (List TraceEntry) E) → 1 ≤ pes
      → IfOk r (λ reports. (w', reports) ≡ or_nothing w (enabled step pack unpack w event p)) → IfOk r AccountedAfter
  accounted_at event p (Ok reports) some ok =
      accounted_after reports some (λ of. subst (λ (v : WorldView C A × List TraceEntry). Stepped step (length opened) w v.0 v.1) (sym ok)
      (enabled_good step pack unpack (length opened) w of event p))
  accounted_at event p (Err e) some ok = tt

  pub accounted_decided : {E : Type 0} (r : Result (List TraceEntry) E) → 1 ≤ pes
      → IfOk r (λ reports. MayDecide w.board w'.board reports × (w' ≡ record w { board = w'.board })) → IfOk r AccountedAfter
  accounted_decided (Ok reports) some ok = accounted_after reports some (λ of. decided_good step pack unpack (length opened) w of (w', reports) ok.0 ok.1)
  accounted_decided (Err e) some ok = tt
