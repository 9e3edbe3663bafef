-- How often the letters of a stamped run were forwarded, and where those on shelves wait.
use Rattle.std.proofs.Common.{◌≡◌, ℕ, ◌<◌, ◌≤◌, List, [], length, map, Option, Some, None, arith, refl, sym, ◌∙◌}
use Rattle.std.specs.Prelude.{Result, All, IfSome}
use Rattle.std.specs.List.{flat_map}
use Rattle.std.proofs.lemmas.List.Elements.{All-append, All-map, All-weaker, All-contains}
use Rattle.sync_board.specs.declared.strategy.Strategy.{Strategy}
use Rattle.chares.specs.declared.carried.Carried.TheVariants.{Letter, Element}
use Rattle.chares.specs.declared.progress.Progress.{Progress}
use Rattle.chares.specs.Elements.{ElementView}
use Rattle.chares.specs.Letters.{LetterView}
use Rattle.chares.specs.Steps.{Step}
use Rattle.pup_pack.specs.declared.error.PupError.{PupError}
use Rattle.pe_state.specs.Pes.{PeView, Parcel, Item}
use Rattle.rts_core.specs.Places.{letters, letters_in, letters_at, journaled}
use Rattle.rts_core.proofs.Rooms.{each_found, each_value}
use Rattle.event_laws.specs.Bound.{StandsOn}
use Rattle.event_laws.specs.Finished.{HoldsIn, HoldsOn, HoldsOfEach}
use Rattle.event_laws.proofs.OwnEntries.{all_flat}
use Rattle.overtaking_laws.specs.Hops.{IsStampedChase}
use Rattle.overtaking_laws.specs.StampedRuns.{Stamped, StampedView, StampedStep, AfterStamped, ReachesStamped, opening_stamped, world_with}
use Rattle.overtaking_laws.proofs.AwaitedLetters.{IsAwaited, AllWait, run_waits, opening_waits}
use Rattle.overtaking_laws.proofs.Awaiting.{Before, StillBefore}
use Rattle.overtaking_laws.proofs.CountedRounds.{AreCounted, counted_few, run_counted}
use Rattle.overtaking_laws.proofs.Everywhere.{Everywhere}
use Rattle.overtaking_laws.proofs.ExecutedLetters.{AllExecuted, executed_few, run_executed, opening_executed}
use Rattle.overtaking_laws.proofs.FewHops.{Few, pe_few, queue_few}
use Rattle.overtaking_laws.proofs.Indexed.{from_each}
use Rattle.overtaking_laws.proofs.RoundPlaces.{moves_few}
use Rattle.overtaking_laws.proofs.StampedSteps.{AllAim, run_aims, opening_aims}
use Rattle.overtaking_laws.proofs.Whereabouts.{Standing, Inside, Boxed, Holds}

-- ---- an element that was not resumed for a round yet, wherever it is

module _ (p e r : ℕ) where
  abbrev NotYet : ℕ → Progress → Type 0
  NotYet i progress = i ≡ e → progress.round < r

  inside_not_yet : (parcel : Parcel) → Inside (Before p e r) (StillBefore p e r) parcel → HoldsIn NotYet parcel
  inside_not_yet (Letter l) k = tt
  inside_not_yet (Element x) k = k

  pe_not_yet : {C : Type 0} (q : ℕ) (pe : PeView C) → Holds (Before p e r) (StillBefore p e r) q pe → HoldsOn NotYet pe
  pe_not_yet {C} q pe h =
      record {
        room = each_value (Standing (Before p e r) (StillBefore p e r) {C = C} q) (λ (el : ElementView C). NotYet el.index el.progress)
            (λ i el k same. k.1.0 (sym k.0 ∙ same)) pe.room h.room;
        hand = by pe.hand h.hand;
        outbox = All-weaker (Boxed (Before p e r) (StillBefore p e r)) (λ (x : Item). HoldsIn NotYet x.parcel) (λ x k. inside_not_yet x.parcel k) pe.outbox h.outbox;
      }
    where
      by : (o : Option Item) → IfSome o (Boxed (Before p e r) (StillBefore p e r)) → IfSome o (λ x. HoldsIn NotYet x.parcel)
      by None k = tt
      by (Some x) k = inside_not_yet x.parcel k

  all_not_yet : {C A : Type 0} (s : StampedView C A) → Everywhere (Before p e r) (StillBefore p e r) s → HoldsOfEach NotYet (world_with s [])
  all_not_yet {C} s h =
      record {
        pes = from_each (HoldsOn {C = C} NotYet) s.pes (λ q pe at. pe_not_yet q pe (h.held q pe at));
        queues = All-map (All (HoldsIn NotYet)) (map (λ (x : Stamped). x.1)) s.queues
            (from_each (λ (queue : List Stamped). All (HoldsIn NotYet) (map (λ (x : Stamped). x.1) queue)) s.queues
            (λ q queue at. All-map (HoldsIn NotYet) (λ (x : Stamped). x.1) queue
            (All-weaker (λ (x : Stamped). Inside (Before p e r) (StillBefore p e r) x.1) (λ (x : Stamped). HoldsIn NotYet x.1)
            (λ x k. inside_not_yet x.1 k) queue (h.queued q queue at))));
      }

  -- an element that PE p waits for is not in its room
  never_there : {C A : Type 0} (s : StampedView C A) → Everywhere (Before p e r) (StillBefore p e r) s → StandsOn (world_with s []) e p → ⊥
  never_there {C} s h on =
      let k : Standing (Before p e r) (StillBefore p e r) {C = C} p e on.1 =
      each_found (Standing (Before p e r) (StillBefore p e r) {C = C} p) e on.0.room on.1 (h.held p on.0 on.2).room on.3 in
      k.1.1 refl refl

-- ---- all of it

module _ {C A : Type 0} (n pes : ℕ) (s : StampedView C A) (h : AllAim n pes s) (waits : AllWait n pes s) (executed : AllExecuted n pes s)
    (counted : AreCounted s.board) where
  all_few : All (Few n pes s.board) (letters (world_with s []))
  all_few =
      All-append (Few n pes s.board) _ _
      (all_flat (Few n pes s.board) letters_at s.pes
      (from_each (λ (pe : PeView C). All (Few n pes s.board) (letters_at pe)) s.pes (λ p pe at. pe_few n pes s.board p (s.known p) pe (h.decided p) (h.letters p pe at))))
      (all_flat (Few n pes s.board) (flat_map letters_in) (map (map (λ (x : Stamped). x.1)) s.queues)
      (All-map (λ (queue : List Parcel). All (Few n pes s.board) (flat_map letters_in queue)) (map (λ (x : Stamped). x.1)) s.queues
      (from_each (λ (queue : List Stamped). All (Few n pes s.board) (flat_map letters_in (map (λ (x : Stamped). x.1) queue))) s.queues
      (λ q queue at. queue_few n pes s.board q queue (h.queued q queue at)))))

  by_rounds : (l : LetterView) → Few n pes s.board l → l.hops ≤ length s.board.rounds
  by_rounds l few = let most = moves_few n pes s.board l.to (length s.board.rounds) in omega (arith, few, most)

  pub stamped_chase : IsStampedChase n pes s
  stamped_chase =
      record {
        held = all_few;
        executed = executed_few n pes s executed;
        few_held = All-weaker (Few n pes s.board) (λ (l : LetterView). l.hops ≤ length s.board.rounds) by_rounds (letters (world_with s [])) all_few;
        few_executed = All-weaker (Few n pes s.board) (λ (l : LetterView). l.hops ≤ length s.board.rounds) by_rounds (journaled (world_with s []))
            (executed_few n pes s executed);
        few_rounds = counted_few s.board counted;
        shelved = λ p pe l at on.
            let k : IsAwaited n pes s p l.to = All-contains (λ (x : LetterView). IsAwaited n pes s p x.to) pe.shelf l (waits.waits p pe at).shelf on in
            record {
              round = k.round;
              within = k.within;
              placed = k.placed;
              not_yet = all_not_yet p l.to k.round s k.before;
              absent = never_there p l.to k.round s k.before;
            };
      }

pub chase_of : {C A : Type 0} (step : Step C) (pack : C → List ℕ) (unpack : List ℕ → Result (C × ℕ) PupError) (pes : ℕ) (chares : List C) (strategy : Strategy)
    (steps : List StampedStep) (last : AfterStamped C A) → ReachesStamped step pack unpack (length chares) pes (opening_stamped pes chares strategy) steps last
    → IsStampedChase (length chares) pes last.0
chase_of {C} {A} step pack unpack pes chares strategy steps last run =
    let n : ℕ = length chares in
    let first : StampedView C A = opening_stamped pes chares strategy in
    let aims : AllAim n pes first = opening_aims A pes chares strategy in
    stamped_chase n pes last.0 (run_aims step pack unpack n pes first steps last aims run)
    (run_waits step pack unpack n pes first steps last aims (opening_waits A pes chares strategy) run)
    (run_executed n pes step pack unpack first steps last aims (opening_executed A pes chares strategy) run)
    (run_counted step pack unpack n pes first steps last run (record { numbered = refl; limited = grind arith }))
