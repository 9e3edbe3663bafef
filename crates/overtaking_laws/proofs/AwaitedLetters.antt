-- In every stamped run a letter waits on a shelf only for an element that has still to come there.
use Rattle.std.proofs.Common.{◌≡◌, ◌≢◌, ℕ, ◌<◌, ◌≤◌, List, [], ◌∷◌, ◌++◌, length, cond, Some, None, Bool, true, false, arith, refl, sym, ◌∙◌, ap, subst}
use Rattle.std.specs.Prelude.{Result, All, slice_get, slice_set, nat_eq, if◌then◌else◌}
use Rattle.std.specs.Ordering.{nat_cmp, is_eq}
use Rattle.std.proofs.lemmas.Bool.Decides.{nat_tests}
use Rattle.std.proofs.lemmas.List.Elements.{All-nil}
use Rattle.std.proofs.lemmas.Option.{none-some, same_Some}
use Rattle.sync_board.specs.declared.strategy.Strategy.{Strategy}
use Rattle.sync_board.specs.Boards.{BoardState}
use Rattle.chares.specs.declared.carried.Carried.TheVariants.{Letter, Element}
use Rattle.chares.specs.declared.trace_entry.TraceEntry.{TraceEntry}
use Rattle.chares.specs.Elements.{ElementView, PackedView, opening_element}
use Rattle.chares.specs.Letters.{LetterView, Done}
use Rattle.chares.specs.Steps.{Step}
use Rattle.pup_pack.specs.declared.error.PupError.{PupError}
use Rattle.pe_state.specs.Pes.{PeView, Parcel, Item, gave_up, received}
use Rattle.pe_state.specs.Rooms.{found}
use Rattle.rts_core.specs.declared.event.Event.{Event}
use Rattle.rts_core.specs.Events.{After, LocalView, Happens, local_view, with_local, local_step, pe_of}
use Rattle.rts_core.specs.Worlds.{WorldView, home}
use Rattle.rts_core.proofs.Rooms.{EachAt, each_joined}
use Rattle.overtaking_laws.specs.StampedRuns.{Stamped, StampedView, StampedStep, AfterStamped, SendsStamped, TakesInTime, LearnsRound, KeepsQueues, IsInformed, StepsTo, ReachesStamped, opening_stamped, seen_by, maker, place_after}
use Rattle.overtaking_laws.specs.StampedRuns.StampedStep.{Makes, Sends, Takes, Learns}
use Rattle.overtaking_laws.proofs.Awaiting.{Lives, Travels, lives_on, known_more, settled_more, apart_more, settled_stays, apart_stays, Before, StillBefore, before_on, Waits, IsKeptHere, IsSpared, waits_give, event_waits}
use Rattle.overtaking_laws.proofs.EventCases.{case_so}
use Rattle.overtaking_laws.proofs.Everywhere.{Everywhere, each_all, each_both, each_weaker, parcels_weaker, queue_weaker, everywhere_weaker, sends_everywhere, takes_everywhere, makes_everywhere}
use Rattle.overtaking_laws.proofs.Indexed.{each_at, each_other, each_opens, none_queued}
use Rattle.overtaking_laws.proofs.OwnTurns.{IsAct, own_turn_so}
use Rattle.overtaking_laws.proofs.RoundPlaces.{IsLater, event_later, place_stays}
use Rattle.overtaking_laws.proofs.SeenWords.{words_of}
use Rattle.overtaking_laws.proofs.StampedSteps.{AllAim, step_aims}
use Rattle.overtaking_laws.proofs.Whereabouts.{Standing, Inside, Boxed, Holds}

-- ---- rooms

module _ {X : Type 0} where
  -- an index at which nothing is found is none of a room's
  none_there : (i : ℕ) (room : List (ℕ × X)) → found i room ≡ None → EachAt (λ e x. e ≢ i) room
  none_there i [] h = tt
  none_there i (y ∷ room) h = by (is_eq (nat_cmp i y.0)) refl h (none_there i room)
    where
      by : (c : Bool) → is_eq (nat_cmp i y.0) ≡ c → cond c (Some y.1) (found i room) ≡ None → (found i room ≡ None → EachAt (λ e x. e ≢ i) room)
          → (y.0 ≢ i) × EachAt (λ e x. e ≢ i) room
      by true t k rest = cc
      by false t k rest = (let other : y.0 ≢ i = grind (arith, nat_tests) in other, rest k)

-- ---- what holds of all

module _ {C A : Type 0} (n pes : ℕ) where
  -- PE p waits for element e: it is the place of the element after a round which the PE knows, and after which the element was not
  -- resumed yet, wherever it is; and it is not on the PE
  pub record IsAwaited (s : StampedView C A) (p e : ℕ) : Type 0 where
    pub round : ℕ
    pub within : round ≤ s.known p
    pub placed : place_after n pes s.board e round ≡ p
    pub before : Everywhere (Before p e round) (StillBefore p e round) s

  pub record AllWait (s : StampedView C A) : Type 0 where
    pub lives : Everywhere (Lives n pes s.board s.known) (Travels n pes s.board s.known) s
    pub waits : (p : ℕ) (pe : PeView C) → slice_get s.pes p ≡ Some pe → Waits (λ l. IsAwaited s p l.to) p pe

  module _ (s : StampedView C A) (h : AllWait s) where
    -- a letter by whose address its element is on the PE, but is not there
    finds : (p : ℕ) (pe : PeView C) → slice_get s.pes p ≡ Some pe → (l : LetterView) → found l.to pe.room ≡ None
        → place_after n pes s.board l.to (s.known p) ≡ p → IsAwaited s p l.to
    finds p pe at l none there =
        record {
          round = s.known p;
          within = omega arith;
          placed = there;
          before = record {
            held = λ q x is.
                let k : Holds R K q x = h.lives.held q x is in
                parcels_weaker R R' K K' (λ e r journal travels. apart e r travels) q x k
                (each_both (Standing R K {C = C} q) (λ e el. q ≡ p → e ≢ l.to) (Standing R' K' {C = C} q)
                (λ e el a other. (a.0, (λ same. stands q e el.progress.round a.1 other same (nat_eq q p) refl, other))) x.room k.room (others q x is (nat_eq q p) refl));
            queued = λ q queue is. queue_weaker R R' K K' (λ e r journal travels. apart e r travels) queue (h.lives.queued q queue is);
          };
        }
      where
        R : ℕ → ℕ → ℕ → List Done → Type 0
        R = Lives n pes s.board s.known

        K : ℕ → ℕ → List Done → Type 0
        K = Travels n pes s.board s.known

        R' : ℕ → ℕ → ℕ → List Done → Type 0
        R' = Before p l.to (s.known p)

        K' : ℕ → ℕ → List Done → Type 0
        K' = StillBefore p l.to (s.known p)

        apart : (e r : ℕ) → Travels n pes s.board s.known e r [] → e ≡ l.to → r < s.known p
        apart e r travels same = travels.1 p (ap (λ (v : ℕ). place_after n pes s.board v (s.known p)) same ∙ there)

        stands : (q e r : ℕ) → Lives n pes s.board s.known q e r [] → (q ≡ p → e ≢ l.to) → e ≡ l.to → (c : Bool) → nat_eq q p ≡ c → r < s.known p
        stands q e r lives other same true t = let here : q ≡ p = grind (arith, nat_tests) in absurd (other here same)
        stands q e r lives other same false t =
            let there' : p ≢ q = grind (arith, nat_tests) in
            lives.1 p there' (ap (λ (v : ℕ). place_after n pes s.board v (s.known p)) same ∙ there)

        others : (q : ℕ) (x : PeView C) → slice_get s.pes q ≡ Some x → (c : Bool) → nat_eq q p ≡ c → EachAt (λ e (el : ElementView C). q ≡ p → e ≢ l.to) x.room
        others q x is true t =
            let here : q ≡ p = grind (arith, nat_tests) in
            let it : slice_get s.pes p ≡ Some x = subst (λ (v : ℕ). slice_get s.pes v ≡ Some x) here is in
            let same : pe ≡ x = same_Some pe x (sym at ∙ it) in
            let empty : found l.to x.room ≡ None = subst (λ (v : PeView C). found l.to v.room ≡ None) same none in
            each_weaker (λ e (el : ElementView C). e ≢ l.to) (λ e (el : ElementView C). q ≡ p → e ≢ l.to) (λ e el k q_is. k) x.room (none_there l.to x.room empty)
        others q x is false t =
            let other : q ≢ p = grind (arith, nat_tests) in
            each_all (λ e (el : ElementView C). q ≡ p → e ≢ l.to) (λ e el q_is. absurd (other q_is)) x.room

    -- ---- parcels that go and come, and what ranks come to know

    module _ (p : ℕ) (next : StampedView C A) (t : SendsStamped p s next) where
      abbrev pub sent : StampedView C A
      sent = record s { pes = slice_set s.pes p (gave_up t.pe); queues = slice_set s.queues t.q (t.queue ++ (s.known p, t.parcel) ∷ []) }

      sent_awaited : (q : ℕ) (l : LetterView) → IsAwaited s q l.to → IsAwaited sent q l.to
      sent_awaited q l k =
          record {
            round = k.round;
            within = k.within;
            placed = k.placed;
            before = subst (Everywhere (Before q l.to k.round) (StillBefore q l.to k.round)) t.leads
                (sends_everywhere (Before q l.to k.round) (StillBefore q l.to k.round) s k.before p next t);
          }

      sent_waits : (q : ℕ) (pe : PeView C) → slice_get s.pes q ≡ Some pe → Waits (λ l. IsAwaited sent q l.to) q pe
      sent_waits q pe at = waits_give (λ l. IsAwaited s q l.to) (λ l. IsAwaited sent q l.to) q (sent_awaited q) pe (h.waits q pe at)

      pub sends_wait : AllWait next
      sends_wait =
          subst AllWait (sym t.leads)
          (record {
            lives = subst (Everywhere (Lives n pes s.board s.known) (Travels n pes s.board s.known)) t.leads
                (sends_everywhere (Lives n pes s.board s.known) (Travels n pes s.board s.known) s h.lives p next t);
            waits = each_at (λ q (x : PeView C). Waits (λ l. IsAwaited sent q l.to) q x) s.pes p t.pe (gave_up t.pe) t.there sent_waits
                (let k = sent_waits p t.pe t.there in record { me = k.me; hand = k.hand; shelf = k.shelf });
          })

    module _ (p : ℕ) (next : StampedView C A) (t : TakesInTime p s next) where
      abbrev pub taken : StampedView C A
      taken = record s { pes = slice_set s.pes p (received t.pe t.parcel.1); queues = slice_set s.queues p (t.before ++ t.after) }

      taken_awaited : (q : ℕ) (l : LetterView) → IsAwaited s q l.to → IsAwaited taken q l.to
      taken_awaited q l k =
          record {
            round = k.round;
            within = k.within;
            placed = k.placed;
            before = subst (Everywhere (Before q l.to k.round) (StillBefore q l.to k.round)) t.leads
                (takes_everywhere (Before q l.to k.round) (StillBefore q l.to k.round) s k.before p next t);
          }

      taken_waits : (q : ℕ) (pe : PeView C) → slice_get s.pes q ≡ Some pe → Waits (λ l. IsAwaited taken q l.to) q pe
      taken_waits q pe at = waits_give (λ l. IsAwaited s q l.to) (λ l. IsAwaited taken q l.to) q (taken_awaited q) pe (h.waits q pe at)

      no_address : (parcel : Parcel) → IsKeptHere (λ l. IsAwaited taken p l.to) p parcel None
      no_address (Letter l) = tt
      no_address (Element x) = tt

      pub takes_wait : AllWait next
      takes_wait =
          subst AllWait (sym t.leads)
          (record {
            lives = subst (Everywhere (Lives n pes s.board s.known) (Travels n pes s.board s.known)) t.leads
                (takes_everywhere (Lives n pes s.board s.known) (Travels n pes s.board s.known) s h.lives p next t);
            waits = each_at (λ q (x : PeView C). Waits (λ l. IsAwaited taken q l.to) q x) s.pes p t.pe (received t.pe t.parcel.1) t.there taken_waits
                (let k = taken_waits p t.pe t.there in record { me = k.me; hand = no_address t.parcel.1; shelf = k.shelf });
          })

    module _ (p : ℕ) (next : StampedView C A) (t : LearnsRound p s next) where
      abbrev pub wiser : StampedView C A
      wiser = record s { known = λ q. if nat_eq q p then t.round else s.known q }

      wiser_awaited : (q : ℕ) (l : LetterView) → IsAwaited s q l.to → IsAwaited wiser q l.to
      wiser_awaited q l k =
          let within = k.within in
          let more : s.known q ≤ wiser.known q = known_more n pes s.board s.known p t.round t.later q (nat_eq q p) refl in
          record {
            round = k.round;
            within = omega (arith, within, more);
            placed = k.placed;
            before = record { held = k.before.held; queued = k.before.queued };
          }

      pub learns_wait : AllWait next
      learns_wait =
          subst AllWait (sym t.leads)
          (record {
            lives =
                let same : Everywhere (Lives n pes s.board s.known) (Travels n pes s.board s.known) wiser = record { held = h.lives.held; queued = h.lives.queued } in
                everywhere_weaker (Lives n pes s.board s.known) (Lives n pes s.board wiser.known) (Travels n pes s.board s.known) (Travels n pes s.board wiser.known)
                (λ e r journal k. (
                  settled_more n pes s.board s.known p t.round t.later e r k.0,
                  λ q at. apart_more n pes s.board s.known p t.round t.later e r q k.0 (k.1 q) (nat_eq q p) refl at,
                )) wiser
                (λ q e r journal k. (
                  settled_more n pes s.board s.known p t.round t.later e r k.0,
                  λ x other at. apart_more n pes s.board s.known p t.round t.later e r x k.0 (k.1 x other) (nat_eq x p) refl at,
                )) same;
            waits = λ q pe at. waits_give (λ l. IsAwaited s q l.to) (λ l. IsAwaited wiser q l.to) q (wiser_awaited q) pe (h.waits q pe at);
          })

    -- ---- an event

    module _ (decided : (p : ℕ) → s.known p ≤ length s.board.rounds) (step : Step C) (pack : C → List ℕ) (unpack : List ℕ → Result (C × ℕ) PupError) (event : Event)
        (keeps : KeepsQueues event) (informed : IsInformed s event) (w : After C A) (happens : Happens step pack unpack (seen_by n pes s (maker event)) event w) where
      abbrev seen : WorldView C A
      seen = seen_by n pes s (maker event)

      abbrev pub made : StampedView C A
      made = record s { pes = w.0.pes; board = w.0.board }

      later : IsLater s.board w.0.board
      later = event_later step pack unpack seen event w happens

      made_lives : Everywhere (Lives n pes w.0.board s.known) (Travels n pes w.0.board s.known) made
      made_lives =
          everywhere_weaker (Lives n pes s.board s.known) (Lives n pes w.0.board s.known) (Travels n pes s.board s.known) (Travels n pes w.0.board s.known)
          (λ e r journal k. (
            settled_stays n pes s.board w.0.board later s.known decided e r k.0,
            λ q. apart_stays n pes s.board w.0.board later s.known decided e r q (k.1 q),
          )) made
          (λ p e r journal k. (
            settled_stays n pes s.board w.0.board later s.known decided e r k.0,
            λ q other. apart_stays n pes s.board w.0.board later s.known decided e r q (k.1 q other),
          ))
          (makes_everywhere (Lives n pes s.board s.known) (Travels n pes s.board s.known) s h.lives step pack unpack n pes event keeps informed
          (λ p pe of at. lives_on n pes s.board s.known event p pe) w happens)

      -- an element that is awaited on a PE still is, unless it comes there
      made_awaited : (q : ℕ) (l : LetterView)
          → ((p : ℕ) (pe : PeView C) → pe_of event ≡ Some p → slice_get s.pes p ≡ Some pe → (item : Item) (x : PackedView) → IsAct event → pe.hand ≡ Some item
          → item.parcel ≡ Element x → p ≡ q → x.index ≢ l.to)
          → IsAwaited s q l.to → IsAwaited made q l.to
      made_awaited q l spared k =
          let within = k.within in
          let most = decided q in
          record {
            round = k.round;
            within = k.within;
            placed = place_stays n pes s.board w.0.board later l.to k.round (omega (arith, within, most)) ∙ k.placed;
            before = makes_everywhere (Before q l.to k.round) (StillBefore q l.to k.round) s k.before step pack unpack n pes event keeps informed
                (λ p pe of at. before_on q l.to k.round n pes s.board k.placed event p (s.known p) pe (spared p pe of at)) w happens;
          }

      abbrev WaitsIn : After C A → Type 0
      WaitsIn v = (q : ℕ) (pe : PeView C) → slice_get v.0.pes q ≡ Some pe → Waits (λ l. IsAwaited (record s { pes = v.0.pes; board = v.0.board }) q l.to) q pe

      nothing_waits : w ≡ (seen, []) → WaitsIn w
      nothing_waits is = subst WaitsIn (sym is) h.waits

      turn_waits : (p : ℕ) (pe : PeView C) → pe_of event ≡ Some p → slice_get s.pes p ≡ Some pe → (after : LocalView C A × List TraceEntry)
          → local_step step pack unpack event (local_view seen pe) ≡ Some after
          → w ≡ (with_local seen p after.0, after.1) → WaitsIn w
      turn_waits p pe of at after is leads q x there =
          let new : Waits (λ l. IsAwaited s p l.to × IsSpared event pe l) p after.0.pe =
          own_turn_so step pack unpack p (local_view seen pe) (Waits (λ l. IsAwaited s p l.to × IsSpared event pe l) p) event after
          (event_waits step pack unpack event n pes p (s.known p) (λ l. IsAwaited s p l.to) (local_view seen pe) (h.waits p pe at) (finds p pe at)
          (words_of n pes s event p pe of at))
          keeps of is in
          let same : slice_get (slice_set s.pes p after.0.pe) q ≡ Some x = subst (λ (v : After C A). slice_get v.0.pes q ≡ Some x) leads there in
          each_other (λ j (z : PeView C). Waits (λ l. IsAwaited made j l.to) j z) s.pes p pe after.0.pe at
          (λ j z other old. waits_give (λ l. IsAwaited s j l.to) (λ l. IsAwaited made j l.to) j
          (λ l k. made_awaited j l (λ i y i_of i_at item e acts hand element here. absurd (other (sym here ∙ same_Some i p (sym i_of ∙ of)))) k) z (h.waits j z old))
          (waits_give (λ l. IsAwaited s p l.to × IsSpared event pe l) (λ l. IsAwaited made p l.to) p
          (λ l k. made_awaited p l (λ i y i_of i_at item e acts hand element here.
          let it : slice_get s.pes p ≡ Some y = subst (λ (v : ℕ). slice_get s.pes v ≡ Some y) here i_at in
          let this : y ≡ pe = same_Some y pe (sym it ∙ at) in
          k.1 item e acts (subst (λ (v : PeView C). v.hand ≡ Some item) this hand) element) k.0) after.0.pe new)
          q x same

      -- a decision moves no letter
      decided_waits : (board : BoardState A) → pe_of event ≡ None → w.0 ≡ record seen { board = board } → WaitsIn w
      decided_waits board of is q pe at =
          waits_give (λ l. IsAwaited s q l.to) (λ l. IsAwaited made q l.to) q
          (λ l k. made_awaited q l (λ i y i_of i_at item e acts hand element here. absurd (none-some i (sym of ∙ i_of))) k) pe
          (h.waits q pe (subst (λ (v : WorldView C A). slice_get v.pes q ≡ Some pe) is at))

      made_waits : WaitsIn w
      made_waits =
          case_so step pack unpack seen event (λ (v : After C A). w ≡ v → WaitsIn w)
          (record {
            nothing = nothing_waits;
            turn = turn_waits;
            decides = λ board rs of is. decided_waits board of (ap (λ (v : After C A). v.0) is);
          })
          w happens refl

      pub makes_wait : AllWait made
      makes_wait = record { lives = made_lives; waits = made_waits }

-- ---- a run

module _ {C A : Type 0} (step : Step C) (pack : C → List ℕ) (unpack : List ℕ → Result (C × ℕ) PupError) (n pes : ℕ) where
  step_waits : (s : StampedView C A) (made : StampedStep) (next : AfterStamped C A) → AllAim n pes s → AllWait n pes s
      → StepsTo step pack unpack n pes s made next → AllWait n pes next.0
  step_waits s (Makes event) next a h (keeps, informed, w, happens, is) =
      subst (λ (v : AfterStamped C A). AllWait n pes v.0) (sym is) (makes_wait n pes s h a.decided step pack unpack event keeps informed w happens)
  step_waits s (Sends p) next a h (sends, quiet) = sends_wait n pes s h p next.0 sends
  step_waits s (Takes p) next a h (takes, quiet) = takes_wait n pes s h p next.0 takes
  step_waits s (Learns p) next a h (learns, quiet) = learns_wait n pes s h p next.0 learns

  pub run_waits : (s : StampedView C A) (steps : List StampedStep) (last : AfterStamped C A) → AllAim n pes s → AllWait n pes s
      → ReachesStamped step pack unpack n pes s steps last → AllWait n pes last.0
  run_waits s [] last a h run = subst (λ (v : AfterStamped C A). AllWait n pes v.0) (sym run) h
  run_waits s (made ∷ steps) last a h (first, rest, to, leads, is) =
      subst (λ (v : AfterStamped C A). AllWait n pes v.0) (sym is)
      (run_waits first.0 steps rest (step_aims step pack unpack n pes s made first a to) (step_waits s made first a h to) leads)

-- ---- as a run opens

at_home : {A : Type 0} (n pes : ℕ) (b : BoardState A) (e : ℕ) → Lives n pes b (λ q. 0) (home e n pes) e 0 []
at_home n pes b e = (λ k le. le, λ q apart at. absurd (apart (sym at)))

pub opening_waits : {C : Type 0} (A : Type 0) (pes : ℕ) (chares : List C) (strategy : Strategy)
    → AllWait (length chares) pes (opening_stamped {A = A} pes chares strategy)
opening_waits {C} A pes chares strategy =
    let n : ℕ = length chares in
    let s : StampedView C A = opening_stamped pes chares strategy in
    let R : ℕ → ℕ → ℕ → List Done → Type 0 = Lives n pes s.board (λ q. 0) in
    let K : ℕ → ℕ → List Done → Type 0 = Travels n pes s.board (λ q. 0) in
    record {
      lives = record {
        held = each_opens n pes (λ p (pe : PeView C). Holds R K p pe) (λ me. record { room = tt; hand = tt; outbox = All-nil (Boxed R K) })
            (λ e chare pe k. record {
              room = each_joined (Standing R K {C = C} (home e n pes)) e (opening_element e chare) pe.room (refl, at_home n pes s.board e) k.room;
              hand = k.hand;
              outbox = k.outbox;
            })
            chares;
        queued = none_queued (All (λ (x : Stamped). Inside R K x.1)) (All-nil (λ (x : Stamped). Inside R K x.1)) pes;
      };
      waits = each_opens n pes (λ p (pe : PeView C). Waits (λ l. IsAwaited n pes s p l.to) p pe)
          (λ me. record { me = refl; hand = tt; shelf = All-nil (λ (l : LetterView). IsAwaited n pes s me l.to) })
          (λ e chare pe k. record { me = k.me; hand = k.hand; shelf = k.shelf }) chares;
    }
