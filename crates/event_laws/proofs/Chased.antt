-- The chase law of every list of events.
use Rattle.std.proofs.Common.{◌≡◌, ℕ, ◌+◌, ◌≤◌, List, [], ◌∷◌, ◌++◌, length, Bool, true, false, arith, refl, sym, ◌∙◌, ap, subst, append_assoc, append-nil}
use Rattle.std.specs.Prelude.{Result, ◌||◌, if◌then◌else◌}
use Rattle.chares.specs.declared.trace_entry.TraceEntry.{TraceEntry}
use Rattle.chares.specs.declared.trace_entry.TraceEntry.TheVariants as Trace
use Rattle.chares.specs.Steps.{Step}
use Rattle.pup_pack.specs.declared.error.PupError.{PupError}
use Rattle.rts_core.specs.declared.event.Event.{Event}
use Rattle.rts_core.specs.Accounts.{times, is_number, says_number, posts, Accounted}
use Rattle.rts_core.specs.Events.{After, Happens}
use Rattle.rts_core.specs.Places.{letters}
use Rattle.rts_core.specs.Runs.{Reaches}
use Rattle.rts_core.specs.Worlds.{WorldView, opening_world}
use Rattle.rts_core.proofs.RunAccount.{kept_accounted}
use Rattle.rts_core.proofs.EventSteps.{happens_good}
use Rattle.rts_core.proofs.Listings.{no_life, world_letters}
use Rattle.rts_core.proofs.OpeningWeights.{opening_of}
use Rattle.rts_core.proofs.RunLaws.{by_said, number_said, Kept, step_keeps, kept_join, kept_same, posts_join}
use Rattle.rts_core.proofs.Weights.{of_world}
use Rattle.event_laws.proofs.EventMoves.{happens_moves}
use Rattle.event_laws.proofs.Moves.{waits_at}
use Rattle.event_laws.proofs.OpeningSites.{opened_sites, opening_sites}
use Rattle.event_laws.proofs.Placed.{IsPlaced, opening_placed, placed_step}
use Rattle.event_laws.proofs.PlainWeights.{world_plain}
use Rattle.event_laws.proofs.Sites.{LetterWeight, no_elements, world_at}
use Rattle.event_laws.specs.Chase.{IsChase, is_forwarded, is_departed}
use Rattle.event_laws.proofs.Chasing.{AreChasing, of_number}
use Rattle.event_laws.proofs.Hops.{chasing_next}
use Rattle.event_laws.proofs.Lags.{strays}
use Rattle.event_laws.proofs.Shelved.{shelved_bound}
use Rattle.event_laws.proofs.LetterTraces.{forwards, departures, was_posted, departed_since, posted_join, since_join, since_none, number_posted, posted_here, since_here}
use Rattle.sync_board.specs.declared.strategy.Strategy.{Strategy}

-- no letter is there as a world opens
opened_none : {C : Type 0} (n m e : ℕ) (chares : List C) → opened_sites no_elements n m e chares ≡ 0
opened_none n m e [] = refl
opened_none n m e (chare ∷ chares) =
    let a : opened_sites no_elements n m e (chare ∷ chares) ≡ 0 + opened_sites no_elements n m (e + 1) chares = refl in
    let b = opened_none n m (e + 1) chares in
    omega (arith, a, b)

no_letter : {C : Type 0} (A : Type 0) (pes : ℕ) (chares : List C) (strategy : Strategy) → 1 ≤ pes → (g : LetterWeight)
    → world_at g no_elements (opening_world {A = A} pes chares strategy) ≡ 0
no_letter A pes chares strategy some g =
    let a = opening_sites g no_elements A pes chares strategy some in
    let b = opened_none (length chares) pes 0 chares in
    omega (arith, a, b)

module _ {C A : Type 0} (step : Step C) (pack : C → List ℕ) (unpack : List ℕ → Result (C × ℕ) PupError) (pes : ℕ) (chares : List C) (strategy : Strategy) (some : 1 ≤ pes) where
  abbrev pub first : WorldView C A
  first = opening_world pes chares strategy

  -- what holds of each world of a run, with its trace
  pub record IsRun (w : WorldView C A) (trace : List TraceEntry) : Type 0 where
    pub placed : IsPlaced (length chares) w
    pub kept : Kept (length chares) first w trace
    pub chasing : AreChasing w trace

  opening_chasing : AreChasing first []
  opening_chasing =
      record {
        lag = no_letter A pes chares strategy some (strays first.words []);
        away = λ p e le. let a = no_letter A pes chares strategy some (waits_at p e) in absurd (omega (arith, a, le));
        hops = λ id e h. omega arith;
        unposted = λ id h. refl;
      }

  -- a letter with a number is in one place
  few_letters : (w : WorldView C A) (trace : List TraceEntry) → Accounted (length chares) w trace → (id : ℕ × ℕ) → world_at (of_number id) no_elements w ≤ 1
  few_letters w trace acc id =
      let a : times (λ l. is_number id l.id) (letters w) ≡ of_world (by_said (number_said id.0 id.1)) no_life w = world_letters (by_said (number_said id.0 id.1)) w in
      let b : world_at (of_number id) no_elements w ≡ of_world (by_said (number_said id.0 id.1)) no_life w = world_plain (number_said id.0 id.1) (λ i. 0) w in
      let c = acc.once id in
      let d = acc.at_most_once id in
      omega (arith, a, b, c, d)

  pub run_step : (w : WorldView C A) (trace : List TraceEntry) (event : Event) (next : After C A) → IsRun w trace → Happens step pack unpack w event next
      → IsRun next.0 (trace ++ next.1)
  run_step w trace event next h happens =
      let kept : Kept (length chares) first next.0 (trace ++ next.1) = kept_join (length chares) first w next.0 trace next.1 h.kept
      (step_keeps step (length chares) w next.0 next.1 (happens_good step pack unpack (length chares) w h.placed.of event next happens)) in
      let before : Accounted (length chares) w trace = kept_accounted step pack unpack pes chares strategy some w trace h.kept in
      let after : Accounted (length chares) next.0 (trace ++ next.1) = kept_accounted step pack unpack pes chares strategy some next.0 (trace ++ next.1) kept in
      record {
        placed = placed_step step pack unpack (length chares) w event next h.placed happens;
        kept = kept;
        chasing = chasing_next w next.0 next.1 trace h.chasing after.at_most_once (few_letters w trace before) h.placed.named
            (happens_moves step pack unpack w h.placed.numbered event next happens);
      }

  run_on : (w : WorldView C A) (trace : List TraceEntry) (events : List Event) (last : After C A) → IsRun w trace
      → Reaches step pack unpack w events last → IsRun last.0 (trace ++ last.1)
  run_on w trace [] last h run = subst (λ (v : After C A). IsRun v.0 (trace ++ v.1)) (sym run) (subst (λ (v : List TraceEntry). IsRun w v) (sym (append-nil trace)) h)
  run_on w trace (event ∷ events) last h (first, rest, happens, leads, is) =
      let a : IsRun first.0 (trace ++ first.1) = run_step w trace event first h happens in
      let b : IsRun rest.0 ((trace ++ first.1) ++ rest.1) = run_on first.0 (trace ++ first.1) events rest a leads in
      subst (λ (v : After C A). IsRun v.0 (trace ++ v.1)) (sym is) (subst (λ (v : List TraceEntry). IsRun rest.0 v) (append_assoc trace first.1 rest.1) b)

  pub reached_run : (events : List Event) (last : After C A) → Reaches step pack unpack first events last → IsRun last.0 last.1
  reached_run events last run = run_on first [] events last
      (record {
        placed = opening_placed A pes chares strategy some;
        kept = kept_same (length chares) first (opening_of A pes chares strategy some);
        chasing = opening_chasing;
      }) run

-- what was posted at most once was not posted before
posted_late : (before after : List TraceEntry) (id : ℕ × ℕ) (e : ℕ) → times (says_number id) (posts (before ++ Trace.Posted id e ∷ after)) ≤ 1
    → (b : Bool) → was_posted id e before ≡ b → b ≡ false
posted_late before after id e one true t =
    let a = number_posted id e before t in
    let b = number_posted id e (Trace.Posted id e ∷ after) (posted_here id e after) in
    let c = posts_join (λ x. if says_number id x then 1 else 0) before (Trace.Posted id e ∷ after) in
    absurd (omega (arith, a, b, c, one))
posted_late before after id e one false t = refl

-- how often a letter was forwarded, by where it was posted in the trace
hops_from : (before after : List TraceEntry) (id : ℕ × ℕ) (e : ℕ) → times (says_number id) (posts (before ++ Trace.Posted id e ∷ after)) ≤ 1
    → (was_posted id e (before ++ Trace.Posted id e ∷ after) ≡ true → forwards id (before ++ Trace.Posted id e ∷ after) ≤ departed_since id e (before ++ Trace.Posted id e ∷ after))
    → forwards id (before ++ Trace.Posted id e ∷ after) ≤ departures e after
hops_from before after id e one hops =
    let here : List TraceEntry = Trace.Posted id e ∷ after in
    let late : was_posted id e before ≡ false = posted_late before after id e one (was_posted id e before) refl in
    let posted : was_posted id e (before ++ here) ≡ true = posted_join id e before here ∙ (ap (λ (v : Bool). v || was_posted id e here) late ∙ posted_here id e after) in
    let a = hops posted in
    let b = since_join id e before here in
    let c : (if was_posted id e before then departures e here else departed_since id e here) ≡ departed_since id e here = ap
    (λ (v : Bool). if v then departures e here else departed_since id e here) late in
    let d = since_none id e before late in
    let f = since_here id e after in
    omega (arith, a, b, c, d, f)

module _ {C A : Type 0} (step : Step C) (pack : C → List ℕ) (unpack : List ℕ → Result (C × ℕ) PupError) (pes : ℕ) (chares : List C) (strategy : Strategy) (some : 1 ≤ pes) where
  pub run_chase : (w : WorldView C A) (trace : List TraceEntry) → IsRun step pack unpack pes chares strategy some w trace → IsChase w trace
  run_chase w trace r =
      let acc : Accounted (length chares) w trace = kept_accounted step pack unpack pes chares strategy some w trace r.kept in
      record {
        hops = λ before after id e is.
            subst (λ (v : List TraceEntry). times (is_forwarded id) v ≤ times (is_departed e) after) (sym is)
            (hops_from before after id e (subst (λ (v : List TraceEntry). times (says_number id) (posts v) ≤ 1) is (acc.at_most_once id))
            (subst (λ (v : List TraceEntry). was_posted id e v ≡ true → forwards id v ≤ departed_since id e v) is (r.chasing.hops id e)));
        shelved = shelved_bound (length chares) w trace r.placed r.chasing;
      }

  pub chased : (events : List Event) (last : After C A) → Reaches step pack unpack (opening_world pes chares strategy) events last → IsChase last.0 last.1
  chased events last run = run_chase last.0 last.1 (reached_run step pack unpack pes chares strategy some events last run)
