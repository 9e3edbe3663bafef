-- In every world that a list of events reaches the elements have finished of which it is said, and no others.
use Rattle.std.proofs.Common.{◌≡◌, ◌≢◌, ℕ, zero, suc, ◌+◌, ◌<◌, ◌≤◌, ◌↔◌, List, [], ◌∷◌, length, Option, Some, None, Bool, true, false, Result, sum_by, arith, refl, sym, ◌∙◌, ap, subst, inl, inr, nat_eq, length-set}
use Rattle.std.specs.Prelude.{All, IfSome, IsTrue, ◌⊎◌, Contains, nat_lt, is_none, ◌&&◌, ◌==◌, replicate, slice_get}
use Rattle.std.specs.Map.{values_of}
use Rattle.std.proofs.lemmas.Bool.Decides.{nat_tests}
use Rattle.std.proofs.lemmas.List.{length-replicate}
use Rattle.std.proofs.lemmas.List.Elements.{All-nil, All-get_or, All-replicate, All-weaker}
use Rattle.std.proofs.lemmas.Option.{slice_get-get_or, same_Some}
use Rattle.pup_pack.specs.declared.error.PupError.{PupError}
use Rattle.sync_board.specs.Boards.{BoardState, HaveFinished, after_report, after_finish}
use Rattle.sync_board.specs.declared.strategy.Strategy.{Strategy}
use Rattle.lb_database.specs.Measuring.{elements, opening, report_of}
use Rattle.chares.specs.declared.carried.Carried.TheVariants.{Letter, Element}
use Rattle.chares.specs.declared.note.Note.{Note}
use Rattle.chares.specs.declared.note.Note.TheVariants.{Sync, Finish}
use Rattle.chares.specs.declared.progress.Progress.{Progress}
use Rattle.chares.specs.Elements.{ElementView, note_of}
use Rattle.chares.specs.Letters.{Done}
use Rattle.chares.specs.Steps.{Step}
use Rattle.pe_state.specs.Pes.{PeView, Parcel, Item, handled}
use Rattle.pe_state.specs.Rooms.{found}
use Rattle.rts_core.specs.declared.event.Event.{Event}
use Rattle.rts_core.specs.Events.{After, local_view, with_local, board_after, Happens}
use Rattle.rts_core.specs.Runs.{Reaches}
use Rattle.rts_core.specs.Worlds.{WorldView, opening_world}
use Rattle.rts_core.proofs.EventSteps.{where_some}
use Rattle.rts_core.proofs.Listings.{no_letter}
use Rattle.rts_core.proofs.OpeningWeights.{one_at}
use Rattle.rts_core.proofs.RunLaws.{by_index}
use Rattle.rts_core.proofs.Turns.{happens_so}
use Rattle.rts_core.proofs.Weights.{of_parcel, of_item, of_hand, of_element, of_pe, of_world, weigh}
use Rattle.rts_core.proofs.Rooms.{at_place}
use Rattle.event_laws.proofs.Alone.{each_zero, on_no_other_pe, in_no_queue, pe_le_one}
use Rattle.event_laws.specs.Agreement.{AgreesWith, AgreesOn, AgreesAt}
use Rattle.event_laws.specs.Finished.{HoldsIn, HoldsOn, HoldsOfEach, IsSaid, FinishedAsSaid}
use Rattle.event_laws.proofs.AgreeingEvents.{Sound, event_sound, opening_sound}
use Rattle.event_laws.proofs.Holding.{each_one, each_two, each_all, ForAll, event_holds}
use Rattle.event_laws.proofs.ReportEvent.{all_got}
use Rattle.event_laws.proofs.Reporting.{count_in, found_counts, not_at, values_but}
use Rattle.event_laws.proofs.AgreeingOpenings.{OpensAt, opening_opens}
use Rattle.event_laws.proofs.Rooms.{of_found, found_index}
use Rattle.event_laws.proofs.Saying.{StandsFinished, event_told, event_after, ran_keeps, ran_new, handled_notes}
use Rattle.event_laws.proofs.HandlerTurns.{true_not_false}

-- an element has finished, if it is the one with this index
abbrev pub HasFinished : ℕ → ℕ → Progress → Type 0
HasFinished e i p = i ≡ e → p.finished ≡ true

-- it is said of each element that has finished
abbrev pub ToldIn : (ℕ → Type 0) → ℕ → Progress → Type 0
ToldIn S i p = p.finished ≡ true → S i

-- ---- one element

module _ {C A : Type 0} (n : ℕ) (w : WorldView C A) (s : Sound n w) (e : ℕ) (x : StandsFinished w e) where
  here : AgreesAt w.board.database x.pe
  here = at_place (AgreesAt w.board.database) w.pes x.p x.pe s.agrees.pes x.at

  key_is : x.key ≡ e
  key_is = sym (found_index x.key x.el x.pe.room here.keyed x.stands) ∙ x.mine

  stands : found e x.pe.room ≡ Some x.el
  stands = subst (λ (v : ℕ). found v x.pe.room ≡ Some x.el) key_is x.stands

  below : e < n
  below =
      let now : AgreesWith w.board.database x.pe.me x.pe.notes x.el = got_of_room in
      let k : x.el.index < elements w.board.database = now.known in
      let c : elements w.board.database ≡ n = s.agrees.measured.counted in
      let m = x.mine in
      omega (arith, k, c, m)
    where
      got_of_room : AgreesWith w.board.database x.pe.me x.pe.notes x.el
      got_of_room = of_found (AgreesWith w.board.database x.pe.me x.pe.notes) e x.el x.pe.room here.room stands

  at_most : of_world no_letter (by_index (one_at e)) w ≤ 1
  at_most = let o : of_world no_letter (by_index (one_at e)) w ≡ 1 = s.one e below in omega (arith, o)

  in_room : 1 ≤ count_in e x.pe.room
  in_room = found_counts e x.el x.pe.room stands x.mine

  parts : of_hand no_letter (by_index (one_at e)) x.pe.hand + (sum_by (of_item no_letter (by_index (one_at e)))
      x.pe.outbox + (sum_by (weigh no_letter) x.pe.shelf + count_in e x.pe.room)) ≤ 1
  parts = pe_le_one no_letter (by_index (one_at e)) w at_most x.p x.pe x.at

  on_pe : 1 ≤ of_pe no_letter (by_index (one_at e)) x.pe
  on_pe =
      let k : of_pe no_letter (by_index (one_at e)) x.pe ≡ of_hand no_letter (by_index (one_at e))
      x.pe.hand + (sum_by (of_item no_letter (by_index (one_at e))) x.pe.outbox + (sum_by (weigh no_letter) x.pe.shelf + count_in e x.pe.room)) = refl in
      let i = in_room in
      omega (arith, k, i)

  not_in : (y : Parcel) → of_parcel no_letter (by_index (one_at e)) y ≡ 0 → HoldsIn (HasFinished e) y
  not_in (Letter l) z = tt
  not_in (Element p) z = λ q. absurd (not_at e p.index z q)

  not_held : (o : Option Item) → of_hand no_letter (by_index (one_at e)) o ≡ 0 → IfSome o (λ y. HoldsIn (HasFinished e) y.parcel)
  not_held None z = tt
  not_held (Some y) z = not_in y.parcel z

  not_boxed : (items : List Item) → sum_by (of_item no_letter (by_index (one_at e))) items ≡ 0 → All (λ y. HoldsIn (HasFinished e) y.parcel) items
  not_boxed items z =
      All-weaker (λ y. of_item no_letter (by_index (one_at e)) y ≡ 0) (λ y. HoldsIn (HasFinished e) y.parcel) (λ y k. not_in y.parcel k) items
      (each_zero (of_item no_letter (by_index (one_at e))) items z)

  own_pe : HoldsOn (HasFinished e) x.pe
  own_pe =
      let a = parts in
      let i = in_room in
      record {
        room = values_but (AgreesWith w.board.database x.pe.me x.pe.notes) (λ (el : ElementView C). HasFinished e el.index el.progress) e
            x.el x.pe.room here.keyed (omega (arith, a)) x.mine stands here.room
            (λ el k ne q. absurd (ne q)) (λ q. x.done);
        hand = not_held x.pe.hand (omega (arith, a, i));
        outbox = not_boxed x.pe.outbox (omega (arith, a, i));
      }

  other_pe : (pe : PeView C) → of_pe no_letter (by_index (one_at e)) pe ≡ 0 → HoldsOn (HasFinished e) pe
  other_pe pe z =
      let split : of_hand no_letter (by_index (one_at e))
      pe.hand + (sum_by (of_item no_letter (by_index (one_at e))) pe.outbox + (sum_by (weigh no_letter) pe.shelf + count_in e pe.room)) ≡ 0 = z in
      record {
        room = All-weaker (λ (el : ElementView C). one_at e el.index ≡ 0) (λ (el : ElementView C). HasFinished e el.index el.progress)
            (λ el k q. absurd (not_at e el.index k q)) (values_of pe.room)
            (each_zero (of_element no_letter (by_index (one_at e))) (values_of pe.room) (omega (arith, split)));
        hand = not_held pe.hand (omega (arith, split));
        outbox = not_boxed pe.outbox (omega (arith, split));
      }

  -- it is in no other place, so each element with its index has finished
  pub alone_finished : HoldsOfEach (HasFinished e) w
  alone_finished =
      record {
        pes = all_got (HoldsOn (HasFinished e)) w.pes (λ q pe there. by q pe there (nat_eq q x.p) refl);
        queues = all_got (All (HoldsIn (HasFinished e))) w.queues
            (λ q queue there.
            All-weaker (λ y. of_parcel no_letter (by_index (one_at e)) y ≡ 0) (HoldsIn (HasFinished e)) not_in queue
            (each_zero (of_parcel no_letter (by_index (one_at e))) queue (in_no_queue no_letter (by_index (one_at e)) w at_most x.p q x.pe queue x.at on_pe there)));
      }
    where
      by : (q : ℕ) (pe : PeView C) → slice_get w.pes q ≡ Some pe → (b : Bool) → nat_eq q x.p ≡ b → HoldsOn (HasFinished e) pe
      by q pe there true t =
          let same : q ≡ x.p = grind (arith, nat_tests) in
          let is : Some x.pe ≡ Some pe = sym x.at ∙ subst (λ (v : ℕ). slice_get w.pes v ≡ Some pe) same there in
          subst (HoldsOn (HasFinished e)) (same_Some x.pe pe is) own_pe
      by q pe there false t =
          let other : q ≢ x.p = grind (arith, nat_tests) in
          other_pe pe (on_no_other_pe no_letter (by_index (one_at e)) w at_most x.p q x.pe pe x.at on_pe there (λ r. other (sym r)))

-- ---- events

-- What is said is so: each element of which it is said has finished, it is said of each that has, and the board knows of each
-- of n elements.
pub record SaidSo {C A : Type 0} (n : ℕ) (w : WorldView C A) : Type 0 where
  pub sound : Sound n w
  pub said : (e : ℕ) → IsSaid w e → HoldsOfEach (HasFinished e) w
  pub told : HoldsOfEach (ToldIn (IsSaid w)) w
  pub counted : length w.board.finished ≡ n

module _ {C A : Type 0} (step : Step C) (pack : C → List ℕ) (unpack : List ℕ → Result (C × ℕ) PupError) (n : ℕ) where
  -- the board knows of as many elements as before
  counted_after : (b : BoardState A) (note : Note) (board : BoardState A) → board_after b note ≡ Some board → length board.finished ≡ length b.finished
  counted_after b (Finish j) board t =
      let both = where_some (nat_lt j (elements b.database)) (Some (after_finish b j)) board t in
      ap (λ (v : BoardState A). length v.finished) (sym (same_Some (after_finish b j) board both.1)) ∙ length-set {A = Bool} b.finished j true
  counted_after b (Sync i r u y q) board t =
      let both = where_some (nat_lt q b.pes && (nat_lt i (elements b.database) &&
      ((r == b.database.round) && is_none (report_of b.database i)))) (Some (after_report b i u y q)) board t in
      ap (λ (v : BoardState A). length v.finished) (sym (same_Some (after_report b i u y q) board both.1))

  event_counted : (w : WorldView C A) (event : Event) (next : After C A) → Happens step pack unpack w event next → length next.0.board.finished ≡ length w.board.finished
  event_counted w event next happens =
      happens_so step pack unpack w (λ (v : After C A). length v.0.board.finished ≡ length w.board.finished)
      (record {
        same = refl;
        turn = λ p pe there. record {
          starts = λ e el is fresh. refl;
          goes_on = λ e round el is waits place. refl;
          looks = λ word. refl;
          flushes = λ q parcel queue front at. refl;
          delivers = λ queue rest parcel at hand is. refl;
          executes = λ x l el hand is at started. refl;
          shelves = λ x l hand is. refl;
          forwards = λ x l q hand is. refl;
          installs = λ x packed chare hand is at. refl;
          reports = λ note board owed taken. counted_after w.board note board taken;
          departs = λ e q el is. refl;
        };
        decides = λ board d. ap (λ (v : BoardState A). length v.finished) d.next;
      })
      event next happens

  module _ (w : WorldView C A) (h : SaidSo n w) (event : Event) (next : After C A) (happens : Happens step pack unpack w event next) where
    sound_then : Sound n next.0
    sound_then = event_sound step pack unpack n w event next h.sound happens

    -- an element of which it is said has finished, also after the event
    said_then : (e : ℕ) → IsSaid next.0 e → HoldsOfEach (HasFinished e) next.0
    said_then e says = by (event_told step pack unpack w e event next happens says)
      where
        by : IsSaid w e ⊎ StandsFinished next.0 e → HoldsOfEach (HasFinished e) next.0
        by (inl before) =
            let all : HoldsOfEach (HasFinished e) w = h.said e before in
            event_holds step pack (HasFinished e) unpack (λ v. Unit {0}) w
            (λ p pe f done hand el there is g q.
            let here : HoldsOn (HasFinished e) pe = at_place (HoldsOn (HasFinished e)) w.pes p pe all.pes there in
            ran_keeps step pack el pe.n pe.me done (of_found (λ (x : ElementView C). HasFinished e x.index x.progress) f el pe.room here.room is q))
            event next all happens tt
        by (inr x) = alone_finished n next.0 sound_then e x

    -- it is said of an element that has finished, also after the event
    told_then : HoldsOfEach (ToldIn (IsSaid next.0)) next.0
    told_then =
        let more : HoldsOfEach (ToldIn (IsSaid next.0)) w =
        each_one (ToldIn (IsSaid w)) (ToldIn (IsSaid next.0))
        (λ i p k f. event_after step pack unpack w i (h.counted ∙ sym h.sound.agrees.measured.counted) event next happens (k f)) w h.told in
        event_holds step pack (ToldIn (IsSaid next.0)) unpack (λ v. (i : ℕ) → IsSaid v i → IsSaid next.0 i) w
        (λ p pe f done hand el there is g finished.
        let here : HoldsOn (ToldIn (IsSaid next.0)) pe = at_place (HoldsOn (ToldIn (IsSaid next.0))) w.pes p pe more.pes there in
        new p pe f done hand el there is g (of_found (λ (x : ElementView C). ToldIn (IsSaid next.0) x.index x.progress) f el pe.room
        here.room is) (ran_new step pack el pe.n pe.me done finished))
        event next more happens (λ i s. s)
      where
        new : (p : ℕ) (pe : PeView C) (f : ℕ) (done : Done) (hand : Option Item) (el : ElementView C) → slice_get w.pes p ≡ Some pe → found f pe.room ≡ Some el
            → ((i : ℕ) → IsSaid (with_local w p (record (local_view w pe) { pe = handled step pack pe f done hand })) i → IsSaid next.0 i)
            → ToldIn (IsSaid next.0) el.index el.progress → (el.progress.finished ≡ true) ⊎ (note_of step pack el pe.n pe.me done ≡ Some (Finish el.index)) → IsSaid next.0 el.index
        new p pe f done hand el there is g before (inl k) = before k
        new p pe f done hand el there is g before (inr note) = g el.index (handled_notes w p pe there el.index step pack f done hand el is note)

    pub event_said : SaidSo n next.0
    event_said = record { sound = sound_then; said = said_then; told = told_then; counted = event_counted w event next happens ∙ h.counted }

  pub run_said : (w : WorldView C A) (events : List Event) (last : After C A) → SaidSo n w → Reaches step pack unpack w events last → SaidSo n last.0
  run_said w [] last h run = subst (λ (v : After C A). SaidSo n v.0) (sym run) h
  run_said w (event ∷ events) last h (first, rest, happens, leads, is) =
      subst (λ (v : After C A). SaidSo n v.0) (sym is) (run_said first.0 events rest (event_said w h event first happens) leads)

-- ---- as a world opens

-- no element has finished
no_flag : (n e : ℕ) → slice_get (replicate n false) e ≡ Some true → ⊥
no_flag zero e h = cc
no_flag (suc n) zero h = cc
no_flag (suc n) (suc e) h = no_flag n e h

module _ {C : Type 0} (A : Type 0) (pes : ℕ) (chares : List C) (strategy : Strategy) where
  abbrev pub opened : WorldView C A
  opened = opening_world pes chares strategy

  opens : All (OpensAt (opening 1 (length chares))) opened.pes
  opens = opening_opens A pes chares strategy

  nothing_said : (e : ℕ) → IsSaid opened e → ⊥
  nothing_said e (inl says) = no_flag (length chares) e says
  nothing_said e (inr (p, pe, there, has)) =
      let here : OpensAt (opening 1 (length chares)) pe = at_place (OpensAt (opening 1 (length chares))) opened.pes p pe opens there in
      none (subst (λ (v : List Note). Contains v (Finish e)) here.no_note has)
    where
      none : Contains [] (Finish e) → ⊥
      none (k, lt, is) = omega (arith, lt)

  unfinished : (pe : PeView C) → OpensAt (opening 1 (length chares)) pe → HoldsOn (ToldIn (IsSaid opened)) pe
  unfinished pe h =
      record {
        room = All-weaker (λ (el : ElementView C). el.progress.finished ≡ false)
            (λ (el : ElementView C). ToldIn (IsSaid opened) el.index el.progress)
            (λ el f t. absurd (true_not_false el.progress.finished t f)) (values_of pe.room) h.unfinished;
        hand = subst (λ (v : Option Item). IfSome v (λ x. HoldsIn (ToldIn (IsSaid opened)) x.parcel)) (sym h.no_hand) tt;
        outbox = subst (λ (v : List Item). All (λ x. HoldsIn (ToldIn (IsSaid opened)) x.parcel) v) (sym h.no_outbox)
            (All-nil (λ (x : Item). HoldsIn (ToldIn (IsSaid opened)) x.parcel));
      }

  pub opening_said : Sound (length chares) opened → SaidSo (length chares) opened
  opening_said sound =
      record {
        sound = sound;
        said = λ e says. absurd (nothing_said e says);
        told = record {
          pes = All-weaker (OpensAt (opening 1 (length chares))) (HoldsOn (ToldIn (IsSaid opened))) unfinished opened.pes opens;
          queues = All-replicate (All (HoldsIn (ToldIn (IsSaid opened)))) pes [] (All-nil (HoldsIn (ToldIn (IsSaid opened))));
        };
        counted = length-replicate {A = Bool} (length chares) false;
      }

-- ---- what follows

module _ {C A : Type 0} (n : ℕ) (w : WorldView C A) (h : SaidSo n w) where
  -- each element is one that the board knows
  abbrev pub Known : ℕ → Progress → Type 0
  Known i p = i < elements w.board.database

  parcel_known : (x : Parcel) → AgreesOn w.board.database x → HoldsIn Known x
  parcel_known (Letter l) k = tt
  parcel_known (Element p) k = k.0

  hand_known : (o : Option Item) → IfSome o (λ x. AgreesOn w.board.database x.parcel) → IfSome o (λ x. HoldsIn Known x.parcel)
  hand_known None k = tt
  hand_known (Some x) k = parcel_known x.parcel k

  pe_known : (pe : PeView C) → AgreesAt w.board.database pe → HoldsOn Known pe
  pe_known pe k =
      record {
        room = All-weaker (AgreesWith w.board.database pe.me pe.notes) (λ (el : ElementView C). Known el.index el.progress) (λ el a. a.known) (values_of pe.room) k.room;
        hand = hand_known pe.hand k.hand;
        outbox = All-weaker (λ (x : Item). AgreesOn w.board.database x.parcel) (λ (x : Item). HoldsIn Known x.parcel) (λ x a. parcel_known x.parcel a) pe.outbox k.outbox;
      }

  known : HoldsOfEach Known w
  known =
      record {
        pes = All-weaker (AgreesAt w.board.database) (HoldsOn Known) pe_known w.pes h.sound.agrees.pes;
        queues = All-weaker (All (AgreesOn w.board.database)) (All (HoldsIn Known))
            (λ queue. All-weaker (AgreesOn w.board.database) (HoldsIn Known) parcel_known queue) w.queues h.sound.agrees.queues;
      }

  said : HoldsOfEach (λ e p. IsSaid w e → p.finished ≡ true) w
  said =
      each_one (ForAll (IsSaid w) HasFinished) (λ e p. IsSaid w e → p.finished ≡ true) (λ e p k s. k e s refl) w
      (each_all (IsSaid w) HasFinished w h.said)

  flagged : HaveFinished w.board → (e : ℕ) → e < elements w.board.database → IsSaid w e
  flagged all e lt =
      let c : length w.board.finished ≡ n = h.counted in
      let d : elements w.board.database ≡ n = h.sound.agrees.measured.counted in
      let inside : e < length w.board.finished = omega (arith, lt, c, d) in
      inl (slice_get-get_or w.board.finished e true inside ∙ ap Some (All-get_or IsTrue w.board.finished e true inside all))

  pub finished_as_said : FinishedAsSaid w
  finished_as_said =
      record {
        each = each_two (λ e p. IsSaid w e → p.finished ≡ true) (ToldIn (IsSaid w)) (λ e p. IsSaid w e ↔ (p.finished ≡ true)) (λ e p k t. (k, t)) w said h.told;
        all = λ all. each_two (λ e p. IsSaid w e → p.finished ≡ true) Known (λ e p. p.finished ≡ true) (λ e p k lt. k (flagged all e lt)) w said known;
      }

module _ {C A : Type 0} (step : Step C) (pack : C → List ℕ) (unpack : List ℕ → Result (C × ℕ) PupError) (pes : ℕ) (chares : List C) (strategy : Strategy) (some : 1 ≤ pes) where
  -- after every list of events
  pub run_finished : (events : List Event) (last : After C A) → Reaches step pack unpack (opening_world pes chares strategy) events last → FinishedAsSaid last.0
  run_finished events last run =
      finished_as_said (length chares) last.0
      (run_said step pack unpack (length chares) (opening_world pes chares strategy) events last
      (opening_said A pes chares strategy (opening_sound step pack unpack pes chares strategy some)) run)
