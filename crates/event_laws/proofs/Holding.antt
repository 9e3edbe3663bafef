-- What holds of every element of a world still does after an event, where it holds of the element that a handler ran.
use Rattle.std.proofs.Common.{◌≡◌, ℕ, ◌+◌, List, [], ◌∷◌, ◌++◌, map, Option, Some, None, Result, refl, sym, subst}
use Rattle.std.specs.Prelude.{All, IfSome, slice_get, slice_index_or}
use Rattle.std.specs.BTreeMap.{is_at}
use Rattle.std.specs.List.{filter}
use Rattle.std.specs.Map.{values_of}
use Rattle.std.specs.Option.{option_map, option_to_list}
use Rattle.std.specs.Ordering.{nat_cmp}
use Rattle.std.proofs.lemmas.List.Elements.{All-nil, All-cons, All-append, All-push, All-drop, All-head, All-tail, All-set}
use Rattle.std.proofs.lemmas.Map.Views.{All-values-insert_entry, All-values-set_value, All-map-remove_entry}
use Rattle.pup_pack.specs.declared.error.PupError.{PupError}
use Rattle.chares.specs.declared.carried.Carried.TheVariants.{Letter, Element}
use Rattle.chares.specs.declared.entry.Entry.TheVariants.{Letter as OfLetter, Resumption}
use Rattle.chares.specs.declared.progress.Progress.{Progress}
use Rattle.chares.specs.declared.trace_entry.TraceEntry.{TraceEntry}
use Rattle.chares.specs.Elements.{ElementView, PackedView, packed, unpacked, ran}
use Rattle.chares.specs.Letters.{LetterView, Done}
use Rattle.chares.specs.Posting.{letters_of, letter_to}
use Rattle.chares.specs.Steps.{Step}
use Rattle.pe_state.specs.Pes.{PeView, Parcel, Item, letter_at, element_at, front_parcel, is_for, hand_wants, looked_in, handled, installed, departed}
use Rattle.pe_state.specs.Rooms.{found, changed, ran_in}
use Rattle.rts_core.specs.declared.event.Event.{Event}
use Rattle.rts_core.specs.Events.{After, LocalView, local_view, with_local, Happens}
use Rattle.rts_core.specs.Worlds.{WorldView}
use Rattle.rts_core.proofs.Turns.{EachTurn, each_map, happens_so}
use Rattle.rts_core.proofs.Rooms.{at_place}
use Rattle.event_laws.specs.Finished.{HoldsIn, HoldsOn, HoldsOfEach}
use Rattle.event_laws.proofs.Addressing.{at_hand, at_front}
use Rattle.event_laws.proofs.Rooms.{of_found}
use Rattle.event_laws.proofs.Reporting.{all_two}

module _ {C : Type 0} (step : Step C) (pack : C → List ℕ) (P : ℕ → Progress → Type 0) where
  abbrev pub Standing : ElementView C → Type 0
  Standing el = P el.index el.progress

  abbrev pub Boxed : Item → Type 0
  Boxed x = HoldsIn P x.parcel

  letters_hold : (me k : ℕ) (sends : List (ℕ × List ℕ)) → All Boxed (letters_of {P = PackedView} me k sends)
  letters_hold me k [] = All-nil Boxed
  letters_hold me k (send ∷ sends) = All-cons Boxed (record { parcel = Letter (letter_to me k send.0 send.1); address = None })
      (letters_of {P = PackedView} me (k + 1) sends) tt (letters_hold me (k + 1) sends)

  unshelved_hold : (q : ℕ) (letters : List LetterView) → All Boxed (map (letter_at q) letters)
  unshelved_hold q [] = All-nil Boxed
  unshelved_hold q (l ∷ letters) = All-cons Boxed (letter_at q l) (map (letter_at q) letters) tt (unshelved_hold q letters)

  front_holds : (outbox : List Item) (parcel : Parcel) → All Boxed outbox → front_parcel outbox ≡ Some parcel → HoldsIn P parcel
  front_holds [] parcel all is = cc
  front_holds (x ∷ xs) parcel all is = let same : x.parcel ≡ parcel = cc in subst (HoldsIn P) same (All-head Boxed x xs all)

  -- ---- what a PE does

  module _ (pe : PeView C) (h : HoldsOn P pe) where
    handled_holds : (e : ℕ) (done : Done) (hand : Option Item) (el : ElementView C) → found e pe.room ≡ Some el
        → P el.index (ran step pack el pe.n pe.me done).progress → IfSome hand Boxed → HoldsOn P (handled step pack pe e done hand)
    handled_holds e done hand el at new held =
        let there : ran_in step pack pe.room e pe.n pe.me done ≡ changed e (ran step pack el pe.n pe.me done) pe.room = rw at refl in
        record {
          room = subst (λ (v : List (ℕ × ElementView C)). All Standing (values_of v)) (sym there)
              (All-values-set_value (is_at (nat_cmp e)) Standing pe.room (ran step pack el pe.n pe.me done) h.room new);
          hand = held;
          outbox = All-append Boxed pe.outbox _ h.outbox (letters_hold pe.me pe.count _);
        }

    looked_in_holds : (q : ℕ) (o : Option ℕ) → HoldsOn P (looked_in pe q o)
    looked_in_holds q (Some e) = record { room = h.room; hand = at_hand (HoldsIn P) q pe.hand h.hand; outbox = h.outbox }
    looked_in_holds q None = record { room = h.room; hand = h.hand; outbox = at_front (HoldsIn P) q pe.outbox h.outbox }

    departed_holds : (e q : ℕ) (el : ElementView C) → found e pe.room ≡ Some el → HoldsOn P (departed pack pe e q)
    departed_holds e q el at =
        let goes : All Boxed (option_to_list (option_map (element_at q) (option_map (packed pack) (found e pe.room)))) =
        subst (λ (o : Option (ElementView C)). All Boxed (option_to_list (option_map (element_at q) (option_map (packed pack) o)))) (sym at)
        (All-cons Boxed (element_at q (packed pack el)) [] (of_found Standing e el pe.room h.room at) (All-nil Boxed)) in
        record {
          room = All-map-remove_entry (is_at (nat_cmp e)) (λ x. x.1) Standing pe.room h.room;
          hand = h.hand;
          outbox = All-append Boxed pe.outbox _ h.outbox goes;
        }

    held_holds : (x : Item) (parcel : Parcel) → pe.hand ≡ Some x → x.parcel ≡ parcel → HoldsIn P parcel
    held_holds x parcel hand is =
        let k : Boxed x = subst (λ (v : Option Item). IfSome v Boxed) hand h.hand in
        subst (HoldsIn P) is k

    installed_holds : (p : PackedView) (chare : C) → P p.index p.progress → HoldsOn P (installed pe p chare)
    installed_holds p chare k =
        record {
          room = All-values-insert_entry nat_cmp p.index (unpacked p chare) Standing pe.room h.room k;
          hand = tt;
          outbox = All-append Boxed pe.outbox _ h.outbox (unshelved_hold pe.me (filter (is_for p.index) pe.shelf));
        }

  -- Of the element that a handler ran it holds where something else is known of what the PE sees then.
  module _ {A : Type 0} (G : LocalView C A → Type 0) (p : ℕ) (d : LocalView C A) (h : HoldsOn P d.pe) (k : All (All (HoldsIn P)) d.queues)
      (runs : (e : ℕ) (done : Done) (hand : Option Item) (el : ElementView C) → found e d.pe.room ≡ Some el
      → G (record d { pe = handled step pack d.pe e done hand }) → P el.index (ran step pack el d.pe.n d.pe.me done).progress) where
    abbrev pub LocalHolds : LocalView C A × List TraceEntry → Type 0
    LocalHolds a = G a.0 → HoldsOn P a.0.pe × All (All (HoldsIn P)) a.0.queues

    pub each_holds : EachTurn step pack p d LocalHolds
    each_holds =
        record {
          starts = λ e el is fresh g. (handled_holds d.pe h e (Resumption 0) d.pe.hand el is (runs e (Resumption 0) d.pe.hand el is g) h.hand, k);
          goes_on = λ e round el is waits place g. (handled_holds d.pe h e (Resumption round) d.pe.hand el is (runs e (Resumption round) d.pe.hand el is g) h.hand, k);
          looks = λ word g. (looked_in_holds d.pe h word (hand_wants d.pe), k);
          flushes = λ q parcel queue front there g. (
            record { room = h.room; hand = h.hand; outbox = All-drop Boxed 1 d.pe.outbox h.outbox },
            All-set (All (HoldsIn P)) d.queues q (queue ++ parcel ∷ [])
                (All-push (HoldsIn P) queue parcel (at_place (All (HoldsIn P)) d.queues q queue k there) (front_holds d.pe.outbox parcel h.outbox front)) k,
          );
          delivers = λ queue rest parcel there hand is g.
              let all : All (HoldsIn P) (parcel ∷ rest) = subst (All (HoldsIn P)) is (at_place (All (HoldsIn P)) d.queues p queue k there) in (
                record { room = h.room; hand = All-head (HoldsIn P) parcel rest all; outbox = h.outbox },
                All-set (All (HoldsIn P)) d.queues p rest (All-tail (HoldsIn P) parcel rest all) k,
              );
          executes = λ x l el hand is there started g. (handled_holds d.pe h l.to (OfLetter l) None el there (runs l.to (OfLetter l) None el there g) tt, k);
          shelves = λ x l hand is g. (record { room = h.room; hand = tt; outbox = h.outbox }, k);
          forwards = λ x l q hand is g. (record { room = h.room; hand = tt; outbox = All-push Boxed d.pe.outbox _ h.outbox tt }, k);
          installs = λ x pk chare hand is none g. (installed_holds d.pe h pk chare (held_holds d.pe h x (Element pk) hand is), k);
          reports = λ note board owed taken g. (record { room = h.room; hand = h.hand; outbox = h.outbox }, k);
          departs = λ e q el is g. (departed_holds d.pe h e q el is, k);
        }

  -- ---- what an event does

  module _ {A : Type 0} (unpack : List ℕ → Result (C × ℕ) PupError) (G : WorldView C A → Type 0) (w : WorldView C A)
      (runs : (p : ℕ) (pe : PeView C) (e : ℕ) (done : Done) (hand : Option Item) (el : ElementView C) → slice_get w.pes p ≡ Some pe → found e pe.room ≡ Some el
      → G (with_local w p (record (local_view w pe) { pe = handled step pack pe e done hand })) → P el.index (ran step pack el pe.n pe.me done).progress) where
    pub event_holds : (event : Event) (next : After C A) → HoldsOfEach P w → Happens step pack unpack w event next → G next.0 → HoldsOfEach P next.0
    event_holds event next h happens =
        happens_so step pack unpack w (λ (v : After C A). G v.0 → HoldsOfEach P v.0)
        (record {
          same = λ g. h;
          turn = λ p pe there.
              let here : HoldsOn P pe = at_place (HoldsOn P) w.pes p pe h.pes there in
              each_map step pack p (local_view w pe) (LocalHolds (λ d. G (with_local w p d)) p (local_view w pe) here h.queues
              (λ e done hand el is. runs p pe e done hand el there is)) (λ a. G (with_local w p a.0) → HoldsOfEach P (with_local w p a.0))
              (λ a k g. record { pes = All-set (HoldsOn P) w.pes p a.0.pe (k g).0 h.pes; queues = (k g).1 })
              (each_holds (λ d. G (with_local w p d)) p (local_view w pe) here h.queues (λ e done hand el is. runs p pe e done hand el there is));
          decides = λ board d g. record { pes = h.pes; queues = h.queues };
        })
        event next happens

-- What follows of each element of what holds of it, and of two things that hold of it.
module _ (P Q R : ℕ → Progress → Type 0) (gives : (e : ℕ) (p : Progress) → P e p → Q e p → R e p) where
  parcel_two : (x : Parcel) → HoldsIn P x → HoldsIn Q x → HoldsIn R x
  parcel_two (Letter l) h k = tt
  parcel_two (Element p) h k = gives p.index p.progress h k

  hand_two : (o : Option Item) → IfSome o (λ x. HoldsIn P x.parcel) → IfSome o (λ x. HoldsIn Q x.parcel) → IfSome o (λ x. HoldsIn R x.parcel)
  hand_two None h k = tt
  hand_two (Some x) h k = parcel_two x.parcel h k

  pub pe_two : {C : Type 0} (pe : PeView C) → HoldsOn P pe → HoldsOn Q pe → HoldsOn R pe
  pe_two {C} pe h k =
      record {
        room = all_two (λ (el : ElementView C). P el.index el.progress) (λ (el : ElementView C). Q el.index el.progress)
            (λ (el : ElementView C). R el.index el.progress) (λ el a b. gives el.index el.progress a b) (values_of pe.room) h.room k.room;
        hand = hand_two pe.hand h.hand k.hand;
        outbox = all_two (λ (x : Item). HoldsIn P x.parcel) (λ (x : Item). HoldsIn Q x.parcel) (λ (x : Item). HoldsIn R x.parcel)
            (λ x a b. parcel_two x.parcel a b) pe.outbox h.outbox k.outbox;
      }

  pub each_two : {C A : Type 0} (w : WorldView C A) → HoldsOfEach P w → HoldsOfEach Q w → HoldsOfEach R w
  each_two w h k =
      record {
        pes = all_two (HoldsOn P) (HoldsOn Q) (HoldsOn R) pe_two w.pes h.pes k.pes;
        queues = all_two (All (HoldsIn P)) (All (HoldsIn Q)) (All (HoldsIn R))
            (λ queue a b. all_two (HoldsIn P) (HoldsIn Q) (HoldsIn R) parcel_two queue a b) w.queues h.queues k.queues;
      }

pub each_one : {C A : Type 0} (P R : ℕ → Progress → Type 0) → ((e : ℕ) (p : Progress) → P e p → R e p) → (w : WorldView C A) → HoldsOfEach P w → HoldsOfEach R w
each_one P R gives w h = each_two P P R (λ e p a b. gives e p a) w h h

-- What holds of each element for every index of a kind.
module _ (S : ℕ → Type 0) (P : ℕ → ℕ → Progress → Type 0) where
  abbrev pub ForAll : ℕ → Progress → Type 0
  ForAll i p = (e : ℕ) → S e → P e i p

  parcel_all : (x : Parcel) → ((e : ℕ) → S e → HoldsIn (P e) x) → HoldsIn ForAll x
  parcel_all (Letter l) h = tt
  parcel_all (Element p) h = h

  hand_all : (o : Option Item) → ((e : ℕ) → S e → IfSome o (λ x. HoldsIn (P e) x.parcel)) → IfSome o (λ x. HoldsIn ForAll x.parcel)
  hand_all None h = tt
  hand_all (Some x) h = parcel_all x.parcel h

  pe_all : {C : Type 0} (pe : PeView C) → ((e : ℕ) → S e → HoldsOn (P e) pe) → HoldsOn ForAll pe
  pe_all pe h =
      record {
        room = λ i d lt e s. (h e s).room i d lt;
        hand = hand_all pe.hand (λ e s. (h e s).hand);
        outbox = λ i d lt. parcel_all (slice_index_or pe.outbox i d).parcel (λ e s. (h e s).outbox i d lt);
      }

  pub each_all : {C A : Type 0} (w : WorldView C A) → ((e : ℕ) → S e → HoldsOfEach (P e) w) → HoldsOfEach ForAll w
  each_all w h =
      record {
        pes = λ i d lt. pe_all (slice_index_or w.pes i d) (λ e s. (h e s).pes i d lt);
        queues = λ i d lt j x inside. parcel_all (slice_index_or (slice_index_or w.queues i d) j x) (λ e s. (h e s).queues i d lt j x inside);
      }
