-- The account of every list of events.
use Rattle.std.proofs.Common.{◌≡◌, ℕ, ◌+◌, ◌≤◌, List, [], ◌∷◌, ◌++◌, length, Option, Some, None, sum_by, arith, refl, sym, ◌∙◌}
use Rattle.std.specs.Prelude.{Result, slice_get, ◌==◌, if◌then◌else◌}
use Rattle.std.specs.Option.{option_map_or}
use Rattle.std.proofs.lemmas.Bool.Decides.{nat_tests}
use Rattle.std.proofs.lemmas.List.Sums.{sum_by-cons}
use Rattle.chares.specs.declared.trace_entry.TraceEntry.{TraceEntry}
use Rattle.chares.specs.Steps.{Step}
use Rattle.pup_pack.specs.declared.error.PupError.{PupError}
use Rattle.pe_state.specs.Pes.{PeView}
use Rattle.rts_core.specs.declared.event.Event.{Event}
use Rattle.rts_core.specs.Accounts.{times, is_number, Said, says_both, executions, Accounted, message, AreSent, IsCounted, IsTraced}
use Rattle.rts_core.specs.Events.{After, Happens}
use Rattle.rts_core.specs.Histories.{AreHistories}
use Rattle.rts_core.specs.Places.{Life, letters, lives, journaled, letters_of_life, sent_over, sends_of, sends}
use Rattle.rts_core.specs.Runs.{Reaches}
use Rattle.rts_core.specs.Worlds.{WorldView, opening_world}
use Rattle.rts_core.proofs.Weights.{Weight, weigh, of_world, sum_by-flat_map}
use Rattle.rts_core.proofs.WorldSteps.{known, below}
use Rattle.rts_core.proofs.EventSteps.{happens_good}
use Rattle.rts_core.proofs.Listings.{no_life, no_letter, sum_zero, world_letters, world_lives, world_journals}
use Rattle.rts_core.proofs.OpeningWeights.{opened_lives, opening_of, opening_numbered, opening_knows, opening_weighs, opening_counts, one_at, opened_once}
use Rattle.rts_core.proofs.RunLaws.{by_said, by_index, by_journal, number_said, Kept, step_keeps, kept_join, run_keeps}
use Rattle.rts_core.proofs.Sent.{by_message, each_one, length_sum, histories_of, sends_weight, sent_step, counted_step}
use Rattle.sync_board.specs.declared.strategy.Strategy.{Strategy}

pub below_le : (j count : ℕ) → below j count ≤ 1
below_le j count = grind (arith, nat_tests)

pub known_le : {C : Type 0} (j : ℕ) (o : Option (PeView C)) → known j o ≤ 1
known_le j None = omega arith
known_le j (Some pe) = below_le j pe.count

-- elements that have done nothing weigh nothing
pub unlived : {C : Type 0} (k : Life → ℕ) → ((i : ℕ) → k (i, []) ≡ 0) → (e : ℕ) (chares : List C) → sum_by k (opened_lives e chares) ≡ 0
unlived k none e [] = refl
unlived k none e (chare ∷ chares) =
    let a : sum_by k ((e, []) ∷ opened_lives (e + 1) chares) ≡ k (e, []) + sum_by k (opened_lives (e + 1) chares) = sum_by-cons k (e, []) (opened_lives (e + 1) chares) in
    omega (arith, a, none e, unlived k none (e + 1) chares)

module _ {C : Type 0} (A : Type 0) (step : Step C) (pes : ℕ) (chares : List C) (strategy : Strategy) (some : 1 ≤ pes) where
  abbrev pub first : WorldView C A
  first = opening_world pes chares strategy

  pub sends_none : (h : ℕ × List ℕ → ℕ) (i : ℕ) → sum_by h (sends_of step chares (i, [])) ≡ 0
  sends_none h i = by (slice_get chares i)
    where
      by : (o : Option C) → sum_by h (option_map_or (λ chare. sent_over step i (length chares) chare []) o []) ≡ 0
      by None = refl
      by (Some c) = refl

  pub first_letters : (g : Weight) → sum_by (weigh g) (letters first) ≡ 0
  first_letters g =
      let a = world_letters g first in
      let b = opening_weighs A pes chares strategy some g no_life in
      let c : sum_by no_life (opened_lives 0 chares) ≡ 0 = sum_zero (opened_lives 0 chares) in
      omega (arith, a, b, c)

  pub first_journals : (g : Weight) → sum_by (weigh g) (journaled first) ≡ 0
  first_journals g =
      let a = world_journals g first in
      let b = opening_weighs A pes chares strategy some no_letter (λ x. sum_by (weigh g) (letters_of_life x)) in
      let c = unlived (λ x. sum_by (weigh g) (letters_of_life x)) (λ i. refl) 0 chares in
      omega (arith, a, b, c)

  -- nothing is executed yet
  pub first_executed : (r : Said → ℕ) → of_world no_letter (by_journal r) first ≡ 0
  first_executed r =
      let a = world_journals (by_said r) first in
      let b = first_journals (by_said r) in
      omega (arith, a, b)

  -- nothing is sent yet
  pub opening_sent : AreSent step chares first
  opening_sent weight =
      let a : sum_by weight (sends step chares first) ≡ of_world no_letter (sends_weight step chares weight) first = sum_by-flat_map weight
      (sends_of step chares) (lives first) ∙ world_lives (sends_weight step chares weight) first in
      let b = opening_weighs A pes chares strategy some no_letter (sends_weight step chares weight) in
      let c = unlived (sends_weight step chares weight) (sends_none weight) 0 chares in
      let d : sum_by (λ l. weight (message l)) (letters first) ≡ 0 = first_letters (by_message weight) in
      let e : sum_by (λ l. weight (message l)) (journaled first) ≡ 0 = first_journals (by_message weight) in
      omega (arith, a, b, c, d, e)

  -- nothing is counted yet
  pub opening_counted : IsCounted first
  opening_counted =
      let a : length (letters first) ≡ 0 = sym (length_sum (letters first)) ∙ first_letters each_one in
      let b : length (journaled first) ≡ 0 = sym (length_sum (journaled first)) ∙ first_journals each_one in
      let c = opening_counts A pes chares strategy some in
      omega (arith, a, b, c)

-- an event keeps what holds of the sends, and of the numbers of letters
module _ {C A : Type 0} (step : Step C) (fits : C → Type 0) (pack : C → List ℕ) (unpack : List ℕ → Result (C × ℕ) PupError)
    (opened : List C) (w : WorldView C A) (event : Event) (next : After C A) where
  pub sent_next : AreHistories step fits pack opened w → AreSent step opened w → Happens step pack unpack w event next → AreSent step opened next.0
  sent_next are sent happens =
      sent_step step fits pack opened w next.0 next.1 are
      (happens_good step pack unpack (length opened) w (histories_of step fits pack opened w are) event next happens) sent

  pub counted_next : AreHistories step fits pack opened w → IsCounted w → Happens step pack unpack w event next → IsCounted next.0
  counted_next are count happens =
      counted_step step (length opened) w next.0 next.1
      (happens_good step pack unpack (length opened) w (histories_of step fits pack opened w are) event next happens) count

module _ {C A : Type 0} (step : Step C) (pack : C → List ℕ) (unpack : List ℕ → Result (C × ℕ) PupError) (pes : ℕ) (chares : List C) (strategy : Strategy) (some : 1 ≤ pes) where
  -- what was kept from the opening on is the account
  pub kept_accounted : (w : WorldView C A) (trace : List TraceEntry) → Kept (length chares) (opening_world pes chares strategy) w trace → Accounted (length chares) w trace
  kept_accounted w trace kept =
      record {
        once = λ id.
            let a = kept.once (number_said id.0 id.1) in
            let b = opening_weighs A pes chares strategy some (by_said (number_said id.0 id.1)) no_life in
            let c : sum_by no_life (opened_lives 0 chares) ≡ 0 = sum_zero (opened_lives 0 chares) in
            let d : times (λ l. is_number id l.id) (letters w) ≡ of_world (by_said (number_said id.0 id.1)) no_life w = world_letters (by_said (number_said id.0 id.1)) w in
            omega (arith, a, b, c, d);
        at_most_once = λ id.
            let a = kept.numbers (opening_numbered A pes chares strategy some) id.0 id.1 in
            let b = opening_knows A pes chares strategy some id.0 id.1 (slice_get (opening_world {A = A} pes chares strategy).pes id.0) refl in
            let c = known_le id.1 (slice_get w.pes id.0) in
            omega (arith, a, b, c);
        own = λ id e.
            let a = kept.once (λ x. if says_both id e x then 1 else 0) in
            let b = opening_weighs A pes chares strategy some (by_said (λ x. if says_both id e x then 1 else 0)) no_life in
            let c : sum_by no_life (opened_lives 0 chares) ≡ 0 = sum_zero (opened_lives 0 chares) in
            omega (arith, a, b, c);
        stands = λ e lt.
            let a = kept.stands (one_at e) in
            let b = opening_weighs A pes chares strategy some no_letter (by_index (one_at e)) in
            let c : sum_by (λ (x : Life). one_at e x.0) (opened_lives 0 chares) ≡ 1 = opened_once e 0 chares (omega arith) (omega (arith, lt)) in
            let d : times (λ x. x.0 == e) (lives w) ≡ of_world no_letter (by_index (one_at e)) w = world_lives (by_index (one_at e)) w in
            omega (arith, a, b, c, d);
      }

  -- the account holds after every list of events
  pub accounted : (events : List Event) (last : After C A) → Reaches step pack unpack (opening_world pes chares strategy) events last → Accounted (length chares) last.0 last.1
  accounted events last run =
      kept_accounted last.0 last.1 (run_keeps step pack unpack (length chares) (opening_world pes chares strategy) events last (opening_of A pes chares strategy some) run)

  -- and after one more event
  pub accounted_next : (events : List Event) (w : WorldView C A) (trace : List TraceEntry) (event : Event) (next : After C A)
      → Reaches step pack unpack (opening_world pes chares strategy) events (w, trace) → Happens step pack unpack w event next
      → Accounted (length chares) next.0 (trace ++ next.1)
  accounted_next events w trace event next run happens =
      let a : Kept (length chares) (opening_world pes chares strategy) w trace = run_keeps step pack unpack (length chares)
      (opening_world pes chares strategy) events (w, trace) (opening_of A pes chares strategy some) run in
      let b : Kept (length chares) w next.0 next.1 = step_keeps step (length chares) w next.0 next.1
      (happens_good step pack unpack (length chares) w a.same_array event next happens) in
      kept_accounted next.0 (trace ++ next.1) (kept_join (length chares) (opening_world pes chares strategy) w next.0 trace next.1 a b)

  -- and every letter is counted
  pub counted : (events : List Event) (last : After C A) → Reaches step pack unpack (opening_world pes chares strategy) events last → IsCounted last.0
  counted events last run =
      (run_keeps step pack unpack (length chares) (opening_world pes chares strategy) events last (opening_of A pes chares strategy some)
      run).counted (opening_counted A step pes chares strategy some)

  -- the trace shows how many letters were posted, and which were executed
  pub kept_told : (w : WorldView C A) (trace : List TraceEntry) → Kept (length chares) (opening_world pes chares strategy) w trace → IsTraced w trace
  kept_told w trace kept =
      record {
        posted = let a = opening_counts A pes chares strategy some in omega (arith, a, kept.posted);
        executed =
            let a = kept.journals (λ x. 1) in
            let b = first_executed A step pes chares strategy some (λ x. 1) in
            let c : length (journaled w) ≡ of_world no_letter (by_journal (λ x. 1)) w = sym (length_sum (journaled w)) ∙ world_journals each_one w in
            let d : sum_by (λ (x : Said). 1) (executions trace) ≡ length (executions trace) = length_sum (executions trace) in
            omega (arith, a, b, c, d);
        journals = λ id.
            let a = kept.journals (number_said id.0 id.1) in
            let b = first_executed A step pes chares strategy some (number_said id.0 id.1) in
            let c : times (λ l. is_number id l.id) (journaled w) ≡ of_world no_letter (by_journal (number_said id.0 id.1)) w = world_journals (by_said (number_said id.0 id.1)) w in
            omega (arith, a, b, c);
      }

  -- and it does after every list of events
  pub told : (events : List Event) (last : After C A) → Reaches step pack unpack (opening_world pes chares strategy) events last → IsTraced last.0 last.1
  told events last run =
      kept_told last.0 last.1 (run_keeps step pack unpack (length chares) (opening_world pes chares strategy) events last (opening_of A pes chares strategy some) run)
