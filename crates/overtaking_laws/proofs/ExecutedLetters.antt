-- In every stamped run the letters that were executed were forwarded at most as often as rounds have moved their elements.
use Rattle.std.proofs.Common.{◌≡◌, ℕ, ◌+◌, List, [], ◌∷◌, ◌++◌, length, map, Option, Some, None, refl, sym, subst}
use Rattle.std.specs.Prelude.{Result, All, IfSome}
use Rattle.std.specs.List.{flat_map}
use Rattle.std.specs.Map.{values_of}
use Rattle.std.specs.Option.{option_to_list}
use Rattle.std.proofs.lemmas.Grind.{flat_map-append}
use Rattle.std.proofs.lemmas.List.Elements.{All-nil, All-cons, All-append, All-map, All-same, All-weaker}
use Rattle.sync_board.specs.declared.strategy.Strategy.{Strategy}
use Rattle.sync_board.specs.Boards.{BoardState, new_board}
use Rattle.chares.specs.declared.carried.Carried.TheVariants.{Letter, Element}
use Rattle.chares.specs.declared.entry.Entry.TheVariants.{Letter as OfLetter, Resumption}
use Rattle.chares.specs.Elements.{ElementView, opening_element}
use Rattle.chares.specs.Letters.{LetterView, Done}
use Rattle.chares.specs.Steps.{Step}
use Rattle.pup_pack.specs.declared.error.PupError.{PupError}
use Rattle.pe_state.specs.Pes.{PeView, Parcel, Item}
use Rattle.rts_core.specs.declared.event.Event.{Event}
use Rattle.rts_core.specs.Places.{Life, life_of, letters_of_entry, letters_of_life, lives, lives_in, lives_at, items_at, journaled}
use Rattle.rts_core.specs.Worlds.{home}
use Rattle.rts_core.proofs.Rooms.{each_joined, each_value}
use Rattle.event_laws.proofs.OwnEntries.{all_flat}
use Rattle.overtaking_laws.specs.StampedRuns.{Stamped, StampedView, StampedStep, AfterStamped, StepsTo, ReachesStamped, opening_stamped, seen_by, maker, world_with}
use Rattle.overtaking_laws.specs.StampedRuns.StampedStep.{Makes, Sends, Takes, Learns}
use Rattle.overtaking_laws.proofs.Everywhere.{Everywhere, everywhere_weaker, sends_everywhere, takes_everywhere, makes_everywhere}
use Rattle.overtaking_laws.proofs.FewHops.{Few, hand_few, few_later}
use Rattle.overtaking_laws.proofs.Indexed.{from_each, each_opens, none_queued}
use Rattle.overtaking_laws.proofs.RoundPlaces.{IsLater, event_later}
use Rattle.overtaking_laws.proofs.StampedSteps.{AllAim, step_aims}
use Rattle.overtaking_laws.proofs.Whereabouts.{Standing, Inside, Boxed, Holds, Allows}

-- ---- journals

module _ {A : Type 0} (n pes : ℕ) (b : BoardState A) where
  abbrev pub FewExecuted : List Done → Type 0
  FewExecuted journal = All (Few n pes b) (flat_map letters_of_entry journal)

  abbrev pub Stands : ℕ → ℕ → ℕ → List Done → Type 0
  Stands p e r journal = FewExecuted journal

  abbrev pub Goes : ℕ → ℕ → List Done → Type 0
  Goes e r journal = FewExecuted journal

  one_more : (journal : List Done) (done : Done) → All (Few n pes b) (letters_of_entry done) → FewExecuted journal → FewExecuted (journal ++ done ∷ [])
  one_more journal done is h =
      let a : flat_map letters_of_entry (journal ++ done ∷ []) ≡ flat_map letters_of_entry journal
      ++ (letters_of_entry done ++ []) = flat_map-append letters_of_entry journal (done ∷ []) in
      let last : All (Few n pes b) (letters_of_entry done ++ []) = All-append (Few n pes b) (letters_of_entry done) [] is (All-nil (Few n pes b)) in
      All-same (Few n pes b) _ _ a (All-append (Few n pes b) (flat_map letters_of_entry journal) (letters_of_entry done ++ []) h last)

  -- what an event does, where the letter in the hand was not forwarded more often
  executes_few : {C : Type 0} (event : Event) (p known : ℕ) (pe : PeView C) → ((item : Item) (l : LetterView) → pe.hand ≡ Some item → item.parcel ≡ Letter l → Few n pes b l)
      → Allows Stands Goes event p known pe b
  executes_few event p known pe few =
      record {
        starts = λ e r journal h. one_more journal (Resumption 0) (All-nil (Few n pes b)) h;
        goes_on = λ e r journal h place le. one_more journal (Resumption (r + 1)) (All-nil (Few n pes b)) h;
        executes = λ r journal item l hand is h. one_more journal (OfLetter l) (All-cons (Few n pes b) l [] (few item l hand is) (All-nil (Few n pes b))) h;
        leaves = λ e r journal h le. h;
        comes = λ item x acts hand is h. h;
      }

-- ---- steps

module _ {C A : Type 0} (n pes : ℕ) where
  abbrev pub AllExecuted : StampedView C A → Type 0
  AllExecuted s = Everywhere (Stands n pes s.board) (Goes n pes s.board) s

  module _ (step : Step C) (pack : C → List ℕ) (unpack : List ℕ → Result (C × ℕ) PupError) where
    step_executed : (s : StampedView C A) (made : StampedStep) (next : AfterStamped C A) → AllAim n pes s → AllExecuted s → StepsTo step pack unpack n pes s made next
        → AllExecuted next.0
    step_executed s (Makes event) next a h (keeps, informed, w, happens, is) =
        let later : IsLater s.board w.0.board = event_later step pack unpack (seen_by n pes s (maker event)) event w happens in
        let gives : (journal : List Done) → FewExecuted n pes s.board journal → FewExecuted n pes w.0.board journal =
        λ journal k. All-weaker (Few n pes s.board) (Few n pes w.0.board) (few_later n pes s.board w.0.board later) (flat_map letters_of_entry journal) k in
        subst (λ (v : AfterStamped C A). AllExecuted v.0) (sym is)
        (everywhere_weaker (Stands n pes s.board) (Stands n pes w.0.board) (Goes n pes s.board) (Goes n pes w.0.board) (λ e r journal k. gives journal k)
        (record s { pes = w.0.pes; board = w.0.board }) (λ p e r journal k. gives journal k)
        (makes_everywhere (Stands n pes s.board) (Goes n pes s.board) s h step pack unpack n pes event keeps informed
        (λ p pe of at. executes_few n pes s.board event p (s.known p) pe (hand_few n pes s.board p (s.known p) pe (a.decided p) (a.letters p pe at))) w happens))
    step_executed s (Sends p) next a h (sends, quiet) =
        subst AllExecuted (sym sends.leads)
        (subst (Everywhere (Stands n pes s.board) (Goes n pes s.board)) sends.leads (sends_everywhere (Stands n pes s.board) (Goes n pes s.board) s h p next.0 sends))
    step_executed s (Takes p) next a h (takes, quiet) =
        subst AllExecuted (sym takes.leads)
        (subst (Everywhere (Stands n pes s.board) (Goes n pes s.board)) takes.leads (takes_everywhere (Stands n pes s.board) (Goes n pes s.board) s h p next.0 takes))
    step_executed s (Learns p) next a h (learns, quiet) = subst AllExecuted (sym learns.leads) (record { held = h.held; queued = h.queued })

    pub run_executed : (s : StampedView C A) (steps : List StampedStep) (last : AfterStamped C A) → AllAim n pes s → AllExecuted s
        → ReachesStamped step pack unpack n pes s steps last → AllExecuted last.0
    run_executed s [] last a h run = subst (λ (v : AfterStamped C A). AllExecuted v.0) (sym run) h
    run_executed s (made ∷ steps) last a h (first, rest, to, leads, is) =
        subst (λ (v : AfterStamped C A). AllExecuted v.0) (sym is)
        (run_executed first.0 steps rest (step_aims step pack unpack n pes s made first a to) (step_executed s made first a h to) leads)

-- ---- as a run opens

pub opening_executed : {C : Type 0} (A : Type 0) (pes : ℕ) (chares : List C) (strategy : Strategy)
    → AllExecuted (length chares) pes (opening_stamped {A = A} pes chares strategy)
opening_executed {C} A pes chares strategy =
    let n : ℕ = length chares in
    let b : BoardState A = new_board n pes strategy in
    let R : ℕ → ℕ → ℕ → List Done → Type 0 = Stands n pes b in
    let K : ℕ → ℕ → List Done → Type 0 = Goes n pes b in
    record {
      held = each_opens n pes (λ p (pe : PeView C). Holds R K p pe) (λ me. record { room = tt; hand = tt; outbox = All-nil (Boxed R K) })
          (λ e chare pe k. record {
            room = each_joined (Standing R K {C = C} (home e n pes)) e (opening_element e chare) pe.room (refl, All-nil (Few n pes b)) k.room;
            hand = k.hand;
            outbox = k.outbox;
          })
          chares;
      queued = none_queued (All (λ (x : Stamped). Inside R K x.1)) (All-nil (λ (x : Stamped). Inside R K x.1)) pes;
    }

-- ---- all of it

module _ {C A : Type 0} (n pes : ℕ) (s : StampedView C A) (h : AllExecuted n pes s) where
  abbrev FewInLife : Life → Type 0
  FewInLife life = All (Few n pes s.board) (letters_of_life life)

  parcel_few : (parcel : Parcel) → Inside (Stands n pes s.board) (Goes n pes s.board) parcel → All FewInLife (lives_in parcel)
  parcel_few (Letter l) k = All-nil FewInLife
  parcel_few (Element x) k = All-cons FewInLife (x.index, x.journal) [] k (All-nil FewInLife)

  abbrev FewItem : Item → Type 0
  FewItem x = All FewInLife (lives_in x.parcel)

  pe_few : (p : ℕ) (pe : PeView C) → Holds (Stands n pes s.board) (Goes n pes s.board) p pe → All FewInLife (lives_at pe)
  pe_few p pe k =
      let outbox : All FewItem pe.outbox = All-weaker (Boxed (Stands n pes s.board) (Goes n pes s.board)) FewItem (λ x a. parcel_few x.parcel a) pe.outbox k.outbox in
      let items : All FewItem (items_at pe) = All-append FewItem (option_to_list pe.hand) pe.outbox (in_hand pe.hand k.hand) outbox in
      let room : All (λ (el : ElementView C). FewInLife (life_of el)) (values_of pe.room) =
      each_value (Standing (Stands n pes s.board) (Goes n pes s.board) {C = C} p) (λ (el : ElementView C). FewInLife (life_of el)) (λ e el a. a.1) pe.room k.room in
      All-append FewInLife _ _ (all_flat FewInLife (λ (x : Item). lives_in x.parcel) (items_at pe) items) (All-map FewInLife life_of (values_of pe.room) room)
    where
      in_hand : (o : Option Item) → IfSome o (Boxed (Stands n pes s.board) (Goes n pes s.board)) → All FewItem (option_to_list o)
      in_hand None a = All-nil FewItem
      in_hand (Some x) a = All-cons FewItem x [] (parcel_few x.parcel a) (All-nil FewItem)

  queue_few : (queue : List Stamped) → All (λ (x : Stamped). Inside (Stands n pes s.board) (Goes n pes s.board) x.1) queue
      → All FewInLife (flat_map lives_in (map (λ (x : Stamped). x.1) queue))
  queue_few queue k =
      all_flat FewInLife lives_in (map (λ (x : Stamped). x.1) queue)
      (All-map (λ (x : Parcel). All FewInLife (lives_in x)) (λ (x : Stamped). x.1) queue
      (All-weaker (λ (x : Stamped). Inside (Stands n pes s.board) (Goes n pes s.board) x.1) (λ (x : Stamped). All FewInLife (lives_in x.1)) (λ x a. parcel_few x.1 a) queue k))

  pub executed_few : All (Few n pes s.board) (journaled (world_with s []))
  executed_few =
      all_flat (Few n pes s.board) letters_of_life (lives (world_with s []))
      (All-append FewInLife _ _
      (all_flat FewInLife lives_at s.pes (from_each (λ (pe : PeView C). All FewInLife (lives_at pe)) s.pes (λ p pe at. pe_few p pe (h.held p pe at))))
      (all_flat FewInLife (flat_map lives_in) (map (map (λ (x : Stamped). x.1)) s.queues)
      (All-map (λ (queue : List Parcel). All FewInLife (flat_map lives_in queue)) (map (λ (x : Stamped). x.1)) s.queues
      (from_each (λ (queue : List Stamped). All FewInLife (flat_map lives_in (map (λ (x : Stamped). x.1) queue))) s.queues
      (λ q queue at. queue_few queue (h.queued q queue at))))))
