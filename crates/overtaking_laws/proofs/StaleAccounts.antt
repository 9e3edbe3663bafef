-- The account of every stale run.
use Rattle.std.proofs.Common.{◌≡◌, ℕ, ◌≤◌, List, [], ◌∷◌, ◌++◌, length, Some, sum_by, arith, refl, sym, ◌∙◌, subst, zero-add, add-zero, append-nil}
use Rattle.std.specs.Prelude.{Result, slice_get}
use Rattle.sync_board.specs.declared.strategy.Strategy.{Strategy}
use Rattle.chares.specs.declared.trace_entry.TraceEntry.{TraceEntry}
use Rattle.chares.specs.Steps.{Step}
use Rattle.pup_pack.specs.declared.error.PupError.{PupError}
use Rattle.pe_state.specs.Histories.{IsParcelHistory}
use Rattle.pe_state.specs.Pes.{Parcel}
use Rattle.rts_core.specs.Accounts.{posts, executions, message, Accounted, AreSent, IsCounted, IsTraced}
use Rattle.rts_core.specs.Events.{After}
use Rattle.rts_core.specs.Histories.{AreHistories}
use Rattle.rts_core.specs.Places.{letters, lives, journaled, letters_of_life, sends_of, sends}
use Rattle.rts_core.specs.Worlds.{WorldView, opening_world}
use Rattle.rts_core.proofs.EventSteps.{happens_good}
use Rattle.rts_core.proofs.Listings.{no_life, no_letter, world_letters, world_lives, world_journals}
use Rattle.rts_core.proofs.OpeningWeights.{opening_of}
use Rattle.rts_core.proofs.RunAccount.{kept_accounted, kept_told, opening_counted}
use Rattle.rts_core.proofs.RunLaws.{by_said, by_index, by_journal, Kept, step_keeps, kept_join, kept_same}
use Rattle.rts_core.proofs.Sent.{by_message, each_one, length_sum, sends_weight}
use Rattle.rts_core.proofs.Weights.{weigh, of_world, sum_by-flat_map}
use Rattle.rts_core.proofs.WorldSteps.{AreOf}
use Rattle.overtaking_laws.specs.Overtaking.{overtaken, Overtakes}
use Rattle.overtaking_laws.specs.StaleRuns.{StaleStep, ReachesStale, Relearns, with_words}
use Rattle.overtaking_laws.proofs.Carrying.{IsCarried, IsCarriedStale, stale_carried_from, overtaken_so}
use Rattle.overtaking_laws.proofs.Overtaken.{same_weight, each_queued}

-- ---- where a parcel overtakes others

-- how many letters are held, and how many are in journals
pub held_weighs : {C A : Type 0} (w : WorldView C A) → length (letters w) ≡ of_world each_one no_life w
held_weighs w = sym (length_sum (letters w)) ∙ world_letters each_one w

pub journaled_weighs : {C A : Type 0} (w : WorldView C A) → length (journaled w) ≡ of_world no_letter (λ x. sum_by (weigh each_one) (letters_of_life x)) w
journaled_weighs w = sym (length_sum (journaled w)) ∙ world_journals each_one w

sends_weigh : {C A : Type 0} (step : Step C) (opened : List C) (weight : ℕ × List ℕ → ℕ) (w : WorldView C A)
    → sum_by weight (sends step opened w) ≡ of_world no_letter (sends_weight step opened weight) w
sends_weigh step opened weight w = sum_by-flat_map weight (sends_of step opened) (lives w) ∙ world_lives (sends_weight step opened weight) w

module _ {C A : Type 0} (w : WorldView C A) (q : ℕ) (before : List Parcel) (parcel : Parcel) (after : List Parcel)
    (queued : slice_get w.queues q ≡ Some (before ++ parcel ∷ after)) where
  abbrev now : WorldView C A
  now = overtaken w q before parcel after

  counted_still : IsCounted w → IsCounted now
  counted_still h =
      let a = held_weighs w in
      let b = held_weighs now in
      let c = journaled_weighs w in
      let d = journaled_weighs now in
      let e = same_weight w q before parcel after queued each_one no_life in
      let f = same_weight w q before parcel after queued no_letter (λ x. sum_by (weigh each_one) (letters_of_life x)) in
      omega (arith, a, b, c, d, e, f, h)

  pub kept_still : (n : ℕ) → AreOf n w → Kept n w now []
  kept_still n are =
      record {
        once = λ r.
            let a = same_weight w q before parcel after queued (by_said r) no_life in
            let b : sum_by r (executions []) ≡ 0 = refl in
            let c : sum_by r (posts []) ≡ 0 = refl in
            omega (arith, a, b, c);
        stands = λ i. same_weight w q before parcel after queued no_letter (by_index i);
        numbers = λ numbered p j. zero-add _;
        same_numbers = λ numbered. numbered;
        same_array = are;
        counted = counted_still;
        journals = λ r. same_weight w q before parcel after queued no_letter (by_journal r) ∙ sym (add-zero _);
        posted = sym (add-zero _);
      }

  sent_still : (step : Step C) (opened : List C) → AreSent step opened w → AreSent step opened now
  sent_still step opened h weight =
      let old = h weight in
      let a = same_weight w q before parcel after queued (by_message weight) no_life in
      let b = same_weight w q before parcel after queued no_letter (sends_weight step opened weight) in
      let c = same_weight w q before parcel after queued no_letter (λ x. sum_by (weigh (by_message weight)) (letters_of_life x)) in
      let l : sum_by (λ x. weight (message x)) (letters w) ≡ of_world (by_message weight) no_life w = world_letters (by_message weight) w in
      let l' : sum_by (λ x. weight (message x)) (letters now) ≡ of_world (by_message weight) no_life now = world_letters (by_message weight) now in
      let k : sum_by (λ x. weight (message x)) (journaled w) ≡ of_world no_letter
      (λ x. sum_by (weigh (by_message weight)) (letters_of_life x)) w = world_journals (by_message weight) w in
      let k' : sum_by (λ x. weight (message x)) (journaled now) ≡ of_world no_letter
      (λ x. sum_by (weigh (by_message weight)) (letters_of_life x)) now = world_journals (by_message weight) now in
      let m = sends_weigh step opened weight w in
      let m' = sends_weigh step opened weight now in
      omega (arith, old, a, b, c, l, l', k, k', m, m')

module _ {C A : Type 0} (step : Step C) (opened : List C) (w next : WorldView C A) (over : Overtakes w next) where
  pub still_sent : AreSent step opened w → AreSent step opened next
  still_sent h = overtaken_so (AreSent step opened) w next over (λ q before parcel after queued. sent_still w q before parcel after queued step opened h)

  pub still_histories : (fits : C → Type 0) (pack : C → List ℕ) → AreHistories step fits pack opened w → AreHistories step fits pack opened next
  still_histories fits pack h =
      overtaken_so (AreHistories step fits pack opened) w next over
      (λ q before parcel after queued. record { pes = h.pes; queues = each_queued w q before parcel after queued (IsParcelHistory step fits pack opened) h.queues })

-- ---- where location words become others

module _ {C A : Type 0} (step : Step C) (opened : List C) (w next : WorldView C A) (o : Relearns w next) where
  pub relearned_sent : AreSent step opened w → AreSent step opened next
  relearned_sent h = subst (AreSent step opened) (sym o.leads) h

  pub relearned_histories : (fits : C → Type 0) (pack : C → List ℕ) → AreHistories step fits pack opened w → AreHistories step fits pack opened next
  relearned_histories fits pack h =
      subst (AreHistories step fits pack opened) {x = with_words w o.words} (sym o.leads) (record { pes = h.pes; queues = h.queues })

-- ---- stale runs

module _ {C A : Type 0} (step : Step C) (pack : C → List ℕ) (unpack : List ℕ → Result (C × ℕ) PupError) (pes : ℕ) (chares : List C) (strategy : Strategy) (some : 1 ≤ pes) where
  abbrev pub first : WorldView C A
  first = opening_world pes chares strategy

  -- what is kept from the opening on
  abbrev pub KeptSince : WorldView C A → List TraceEntry → Type 0
  KeptSince w trace = Kept (length chares) first w trace

  kept_carried : IsCarried step pack unpack KeptSince
  kept_carried =
      record {
        happens = λ w trace event next h happens.
            kept_join (length chares) first w next.0 trace next.1 h
            (step_keeps step (length chares) w next.0 next.1 (happens_good step pack unpack (length chares) w h.same_array event next happens));
        overtakes = λ w trace h q before parcel after queued.
            subst (λ (v : List TraceEntry). KeptSince (overtaken w q before parcel after) v) (append-nil trace)
            (kept_join (length chares) first w (overtaken w q before parcel after) trace [] h (kept_still w q before parcel after queued (length chares) h.same_array));
      }

  kept_stale : IsCarriedStale step pack unpack KeptSince
  kept_stale =
      record {
        freely = kept_carried;
        relearns = λ w trace h words.
            record {
              once = h.once;
              stands = h.stands;
              numbers = h.numbers;
              same_numbers = h.same_numbers;
              same_array = h.same_array;
              counted = h.counted;
              journals = h.journals;
              posted = h.posted;
            };
      }

  pub stale_keeps : (steps : List StaleStep) (last : After C A) → ReachesStale step pack unpack first steps last → KeptSince last.0 last.1
  stale_keeps steps last run =
      stale_carried_from step pack unpack KeptSince kept_stale first steps last (kept_same (length chares) first (opening_of A pes chares strategy some)) run

  pub stale_accounted : (steps : List StaleStep) (last : After C A) → ReachesStale step pack unpack first steps last → Accounted (length chares) last.0 last.1
  stale_accounted steps last run = kept_accounted step pack unpack pes chares strategy some last.0 last.1 (stale_keeps steps last run)

  pub stale_counted : (steps : List StaleStep) (last : After C A) → ReachesStale step pack unpack first steps last → IsCounted last.0
  stale_counted steps last run = (stale_keeps steps last run).counted (opening_counted A step pes chares strategy some)

  pub stale_traced : (steps : List StaleStep) (last : After C A) → ReachesStale step pack unpack first steps last → IsTraced last.0 last.1
  stale_traced steps last run = kept_told step pack unpack pes chares strategy some last.0 last.1 (stale_keeps steps last run)
