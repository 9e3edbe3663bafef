-- In every stamped run each letter is bound for the place of its element after a round that is known where the letter is, and so is each
-- element.
use Rattle.std.proofs.Common.{◌≡◌, ℕ, ◌≤◌, List, [], ◌∷◌, ◌++◌, length, Some, Bool, true, false, arith, refl, sym, subst}
use Rattle.std.specs.Prelude.{Result, All, nat_eq, if◌then◌else◌, slice_get}
use Rattle.std.proofs.lemmas.Bool.Decides.{nat_tests}
use Rattle.std.proofs.lemmas.List.Elements.{All-nil, All-head, All-tail, All-push, All-weaker}
use Rattle.sync_board.specs.declared.strategy.Strategy.{Strategy}
use Rattle.sync_board.specs.Boards.{BoardState, new_board}
use Rattle.chares.specs.declared.trace_entry.TraceEntry.{TraceEntry}
use Rattle.chares.specs.Elements.{opening_element}
use Rattle.chares.specs.Steps.{Step}
use Rattle.pup_pack.specs.declared.error.PupError.{PupError}
use Rattle.pe_state.specs.Pes.{PeView, gave_up, received}
use Rattle.rts_core.specs.declared.event.Event.{Event}
use Rattle.rts_core.specs.Events.{After, LocalView, Happens, local_view, with_local, local_step, pe_of}
use Rattle.rts_core.specs.Worlds.{WorldView, home}
use Rattle.rts_core.proofs.Rooms.{each_joined}
use Rattle.overtaking_laws.specs.StampedRuns.{Stamped, StampedView, StampedStep, AfterStamped, SendsStamped, TakesInTime, LearnsRound, KeepsQueues, IsInformed, StepsTo, ReachesStamped, opening_stamped, seen_by, maker}
use Rattle.overtaking_laws.specs.StampedRuns.StampedStep.{Makes, Sends, Takes, Learns}
use Rattle.overtaking_laws.proofs.Aims.{LettersAim, InRoom, IsQueued, OnShelf, OutItem, letters_more, letters_stay, queued_stay, came_in_time, goes_out, gave_up_aims, received_aims}
use Rattle.overtaking_laws.proofs.EventCases.{case_so}
use Rattle.overtaking_laws.proofs.Everywhere.{frees_known}
use Rattle.overtaking_laws.proofs.Indexed.{each_at, each_opens, none_queued}
use Rattle.overtaking_laws.proofs.Overtaken.{all_moved}
use Rattle.overtaking_laws.proofs.RoundPlaces.{IsLater, event_later}
use Rattle.overtaking_laws.proofs.OwnTurns.{own_turn_so}
use Rattle.overtaking_laws.proofs.SeenWords.{words_of}
use Rattle.overtaking_laws.proofs.StampedTurns.{turn_aims}

-- ---- what holds of all

pub record AllAim {C A : Type 0} (n pes : ℕ) (s : StampedView C A) : Type 0 where
  pub decided : (p : ℕ) → s.known p ≤ length s.board.rounds
  pub letters : (p : ℕ) (pe : PeView C) → slice_get s.pes p ≡ Some pe → LettersAim n pes s.board p (s.known p) pe
  pub queued : (q : ℕ) (queue : List Stamped) → slice_get s.queues q ≡ Some queue → All (IsQueued n pes s.board q) queue

module _ {C A : Type 0} (n pes : ℕ) (s : StampedView C A) (h : AllAim n pes s) where
  -- a parcel is put into a queue
  pub sends_aim : (p : ℕ) (next : StampedView C A) → SendsStamped p s next → AllAim n pes next
  sends_aim p next t =
      subst (AllAim n pes) (sym t.leads)
      (record {
        decided = h.decided;
        letters = each_at (λ q (x : PeView C). LettersAim n pes s.board q (s.known q) x) s.pes p t.pe (gave_up t.pe) t.there h.letters
            (gave_up_aims n pes s.board p (s.known p) t.pe (h.letters p t.pe t.there));
        queued = each_at (λ q (x : List Stamped). All (IsQueued n pes s.board q) x) s.queues t.q t.queue (t.queue ++ (s.known p, t.parcel) ∷ []) t.queued h.queued
            (All-push (IsQueued n pes s.board t.q) t.queue (s.known p, t.parcel) (h.queued t.q t.queue t.queued)
            (goes_out n pes s.board t.q (s.known p) t.pe.outbox t.parcel (h.decided p) (h.letters p t.pe t.there).outbox t.front t.goes_to));
      })

  -- one is taken out
  pub takes_aim : (p : ℕ) (next : StampedView C A) → TakesInTime p s next → AllAim n pes next
  takes_aim p next t =
      let all : All (IsQueued n pes s.board p) (t.parcel ∷ t.before ++ t.after) =
      all_moved (IsQueued n pes s.board p) t.before t.parcel t.after (h.queued p (t.before ++ t.parcel ∷ t.after) t.queued) in
      let it : IsQueued n pes s.board p t.parcel = All-head (IsQueued n pes s.board p) t.parcel (t.before ++ t.after) all in
      subst (AllAim n pes) (sym t.leads)
      (record {
        decided = h.decided;
        letters = each_at (λ q (x : PeView C). LettersAim n pes s.board q (s.known q) x) s.pes p t.pe (received t.pe t.parcel.1) t.there h.letters
            (received_aims n pes s.board p (s.known p) t.pe (h.letters p t.pe t.there) t.parcel.1
            (came_in_time n pes s.board p (s.known p) t.parcel.0 t.parcel.1 it t.in_time));
        queued = each_at (λ q (x : List Stamped). All (IsQueued n pes s.board q) x) s.queues p (t.before ++ t.parcel ∷ t.after) (t.before ++ t.after) t.queued h.queued
            (All-tail (IsQueued n pes s.board p) t.parcel (t.before ++ t.after) all);
      })

  -- a rank comes to know a round
  pub learns_aim : (p : ℕ) (next : StampedView C A) → LearnsRound p s next → AllAim n pes next
  learns_aim p next t =
      subst (AllAim n pes) (sym t.leads)
      (record {
        decided = λ q. within q (nat_eq q p);
        letters = λ q pe at. letters_more n pes s.board q (s.known q) (if nat_eq q p then t.round else s.known q) pe (more q (nat_eq q p) refl) (h.letters q pe at);
        queued = h.queued;
      })
    where
      within : (q : ℕ) (c : Bool) → (if c then t.round else s.known q) ≤ length s.board.rounds
      within q true = t.decided
      within q false = h.decided q

      more : (q : ℕ) (c : Bool) → nat_eq q p ≡ c → s.known q ≤ (if c then t.round else s.known q)
      more q true is =
          let same : q ≡ p = grind (arith, nat_tests) in
          subst (λ (v : ℕ). s.known v ≤ t.round) (sym same) t.later
      more q false is = omega arith

  -- ---- an event

  module _ (step : Step C) (pack : C → List ℕ) (unpack : List ℕ → Result (C × ℕ) PupError) (event : Event) (keeps : KeepsQueues event) (informed : IsInformed s event)
      (w : After C A) (happens : Happens step pack unpack (seen_by n pes s (maker event)) event w) where
    abbrev seen : WorldView C A
    seen = seen_by n pes s (maker event)

    -- all letters still go where they should by what was decided before
    abbrev Made : After C A → Type 0
    Made v = (p : ℕ) (pe : PeView C) → slice_get v.0.pes p ≡ Some pe → LettersAim n pes s.board p (s.known p) pe

    turn_made : (p : ℕ) (pe : PeView C) → pe_of event ≡ Some p → slice_get s.pes p ≡ Some pe → (after : LocalView C A × List TraceEntry)
        → local_step step pack unpack event (local_view seen pe) ≡ Some after → Made (with_local seen p after.0, after.1)
    turn_made p pe of at after is =
        each_at (λ q (x : PeView C). LettersAim n pes s.board q (s.known q) x) s.pes p pe after.0.pe at h.letters
        (own_turn_so step pack unpack p (local_view seen pe) (LettersAim n pes s.board p (s.known p)) event after
        (turn_aims step pack unpack n pes p (s.known p) (local_view seen pe) (h.letters p pe at) event (words_of n pes s event p pe of at)
        (frees_known s p pe event informed of at)) keeps of is)

    made : Made w
    made =
        case_so step pack unpack seen event Made (record { nothing = h.letters; turn = turn_made; decides = λ board rs of. h.letters }) w happens

    pub makes_aim : AllAim n pes (record s { pes = w.0.pes; board = w.0.board })
    makes_aim =
        let later : IsLater s.board w.0.board = event_later step pack unpack seen event w happens in
        let longer = later.longer in
        record {
          decided = λ p. let k = h.decided p in omega (arith, k, longer);
          letters = λ p pe at. letters_stay n pes s.board w.0.board later p (s.known p) pe (h.decided p) (made p pe at);
          queued = λ q queue at. All-weaker (IsQueued n pes s.board q) (IsQueued n pes w.0.board q)
              (λ x k. queued_stay n pes s.board w.0.board later q x.0 x.1 k) queue (h.queued q queue at);
        }

-- ---- a run

module _ {C A : Type 0} (step : Step C) (pack : C → List ℕ) (unpack : List ℕ → Result (C × ℕ) PupError) (n pes : ℕ) where
  pub step_aims : (s : StampedView C A) (made : StampedStep) (next : AfterStamped C A) → AllAim n pes s → StepsTo step pack unpack n pes s made next → AllAim n pes next.0
  step_aims s (Makes event) next h (keeps, informed, w, happens, is) =
      subst (λ (v : AfterStamped C A). AllAim n pes v.0) (sym is) (makes_aim n pes s h step pack unpack event keeps informed w happens)
  step_aims s (Sends p) next h (sends, quiet) = sends_aim n pes s h p next.0 sends
  step_aims s (Takes p) next h (takes, quiet) = takes_aim n pes s h p next.0 takes
  step_aims s (Learns p) next h (learns, quiet) = learns_aim n pes s h p next.0 learns

  pub run_aims : (s : StampedView C A) (steps : List StampedStep) (last : AfterStamped C A) → AllAim n pes s
      → ReachesStamped step pack unpack n pes s steps last → AllAim n pes last.0
  run_aims s [] last h run = subst (λ (v : AfterStamped C A). AllAim n pes v.0) (sym run) h
  run_aims s (made ∷ steps) last h (first, rest, to, leads, is) =
      subst (λ (v : AfterStamped C A). AllAim n pes v.0) (sym is) (run_aims first.0 steps rest (step_aims s made first h to) leads)

-- ---- as a run opens

pub opening_aims : {C : Type 0} (A : Type 0) (pes : ℕ) (chares : List C) (strategy : Strategy)
    → AllAim (length chares) pes (opening_stamped {A = A} pes chares strategy)
opening_aims {C} A pes chares strategy =
    let n : ℕ = length chares in
    let b : BoardState A = new_board n pes strategy in
    record {
      decided = λ p. omega arith;
      letters = each_opens n pes (λ p (pe : PeView C). LettersAim n pes b p 0 pe)
          (λ me. record { me = refl; room = tt; hand = tt; shelf = All-nil (OnShelf n pes b me 0); outbox = All-nil (OutItem n pes b 0) })
          (λ e chare pe k. record {
            me = k.me;
            room = each_joined (InRoom n pes b {C = C} (home e n pes) 0) e (opening_element e chare) pe.room
                (refl, record { round = 0; within = omega arith; placed = refl }) k.room;
            hand = k.hand;
            shelf = k.shelf;
            outbox = k.outbox;
          })
          chares;
      queued = λ q. none_queued (All (IsQueued n pes b q)) (All-nil (IsQueued n pes b q)) pes q;
    }
