-- What holds of each element by the PE in whose room it is, or as a parcel, by the round after which it was resumed last, and by its
-- journal: what the events of a PE keep of it.
use Rattle.std.proofs.Common.{◌≡◌, ℕ, ◌+◌, ◌≤◌, List, [], ◌∷◌, ◌++◌, map, Option, Some, None, Bool, true, false, arith, refl, sym, ◌∙◌, ap, subst}
use Rattle.std.specs.Prelude.{Result, All, IfSome, if◌then◌else◌}
use Rattle.std.specs.List.{filter}
use Rattle.std.specs.Option.{option_map, option_and_then, option_to_list}
use Rattle.std.proofs.lemmas.List.Elements.{All-nil, All-cons, All-append, All-push, All-drop}
use Rattle.std.proofs.lemmas.Option.{same_Some}
use Rattle.sync_board.specs.Boards.{BoardState, place_in}
use Rattle.chares.specs.declared.carried.Carried.TheVariants.{Letter, Element}
use Rattle.chares.specs.declared.entry.Entry.TheVariants.{Letter as OfLetter, Resumption}
use Rattle.chares.specs.declared.progress.Ending.{Ending}
use Rattle.chares.specs.declared.progress.Ending.TheVariants.{Runs, Syncs, Finishes}
use Rattle.chares.specs.declared.progress.Progress.{Progress}
use Rattle.chares.specs.Elements.{ElementView, PackedView, packed, unpacked, ran, worked, ending_of}
use Rattle.chares.specs.Letters.{LetterView, Done, hopped}
use Rattle.chares.specs.Posting.{letters_of, letter_to}
use Rattle.chares.specs.Progressing.{ended}
use Rattle.chares.specs.Steps.{Step}
use Rattle.pup_pack.specs.declared.error.PupError.{PupError}
use Rattle.pe_state.specs.Pes.{PeView, Parcel, Item, letter_at, element_at, is_for, hand_wants, looked_in, gave_up, received, noted, handled, resumed, departed, installed, executed, waits_for, waits_at}
use Rattle.pe_state.specs.Rooms.{found, changed, ran_in}
use Rattle.rts_core.specs.declared.event.Event.{Event}
use Rattle.rts_core.specs.Events.{LocalView}
use Rattle.rts_core.proofs.Rooms.{EachAt, each_found, each_changed, each_joined, each_without}
use Rattle.event_laws.proofs.Addressing.{at_hand, at_front}
use Rattle.overtaking_laws.proofs.OwnTurns.{IsAct, Frees, IsDue, IsInHand, EachOwnTurn}

-- ---- the round of an element after a handler

ended_round : (p : Progress) (how : Ending) → (ended p how).round ≡ p.round
ended_round p Runs = refl
ended_round p Syncs = refl
ended_round p Finishes = refl

module _ {C : Type 0} (step : Step C) (pack : C → List ℕ) (el : ElementView C) (n me : ℕ) where
  pub resumed_round : (round : ℕ) → (ran step pack el n me (Resumption round)).progress.round ≡ round
  resumed_round round = ended_round (worked step pack el n (Resumption round)) (ending_of step pack el n (Resumption round))

  pub same_round : (l : LetterView) → (ran step pack el n me (OfLetter l)).progress.round ≡ el.progress.round
  same_round l = ended_round (worked step pack el n (OfLetter l)) (ending_of step pack el n (OfLetter l))

-- the round for whose end an element waits
pub waits_next : {C : Type 0} (el : ElementView C) (round : ℕ) → waits_for el ≡ Some round → round ≡ el.progress.round + 1
waits_next el round h = by el.progress.synced h
  where
    by : (b : Bool) → (if b then Some (el.progress.round + 1) else None) ≡ Some round → round ≡ el.progress.round + 1
    by true k = sym (same_Some (el.progress.round + 1) round k)
    by false k = cc

-- ---- what holds of each element

module _ (R : ℕ → ℕ → ℕ → List Done → Type 0) (K : ℕ → ℕ → List Done → Type 0) where
  abbrev pub Standing : {C : Type 0} → ℕ → ℕ → ElementView C → Type 0
  Standing p e el = (el.index ≡ e) × R p e el.progress.round el.journal

  abbrev pub Inside : Parcel → Type 0
  Inside (Letter l) = Unit {0}
  Inside (Element x) = K x.index x.progress.round x.journal

  abbrev pub Boxed : Item → Type 0
  Boxed x = Inside x.parcel

  -- of each that PE p has
  pub record Holds {C : Type 0} (p : ℕ) (pe : PeView C) : Type 0 where
    pub room : EachAt (Standing {C = C} p) pe.room
    pub hand : IfSome pe.hand Boxed
    pub outbox : All Boxed pe.outbox

  -- What keeps it over an event of PE p that knows this round: an element starts, goes on after a round, executes a letter, leaves the
  -- room, or comes.
  pub record Allows {C A : Type 0} (event : Event) (p known : ℕ) (pe : PeView C) (b : BoardState A) : Type 0 where
    pub starts : (e r : ℕ) (journal : List Done) → R p e r journal → R p e 0 (journal ++ Resumption 0 ∷ [])
    pub goes_on : (e r : ℕ) (journal : List Done) → R p e r journal → place_in b (r + 1) e ≡ Some p → r + 1 ≤ known → R p e (r + 1) (journal ++ Resumption (r + 1) ∷ [])
    pub executes : (r : ℕ) (journal : List Done) (item : Item) (l : LetterView) → pe.hand ≡ Some item → item.parcel ≡ Letter l → R p l.to r journal
        → R p l.to r (journal ++ OfLetter l ∷ [])
    pub leaves : (e r : ℕ) (journal : List Done) → R p e r journal → r + 1 ≤ known → K e r journal
    pub comes : (item : Item) (x : PackedView) → IsAct event → pe.hand ≡ Some item → item.parcel ≡ Element x → K x.index x.progress.round x.journal
        → R p x.index x.progress.round x.journal

  letters_inside : (me k : ℕ) (sends : List (ℕ × List ℕ)) → All Boxed (letters_of {P = PackedView} me k sends)
  letters_inside me k [] = All-nil Boxed
  letters_inside me k (send ∷ sends) =
      All-cons Boxed (record { parcel = Letter (letter_to me k send.0 send.1); address = None }) (letters_of {P = PackedView} me (k + 1) sends) tt
      (letters_inside me (k + 1) sends)

  unshelved_inside : (q : ℕ) (letters : List LetterView) → All Boxed (map (letter_at q) letters)
  unshelved_inside q [] = All-nil Boxed
  unshelved_inside q (l ∷ letters) = All-cons Boxed (letter_at q l) (map (letter_at q) letters) tt (unshelved_inside q letters)

  module _ {C : Type 0} (p : ℕ) (pe : PeView C) (h : Holds p pe) where
    pub gave_up_holds : Holds p (gave_up pe)
    gave_up_holds = record { room = h.room; hand = h.hand; outbox = All-drop Boxed 1 pe.outbox h.outbox }

    pub received_holds : (parcel : Parcel) → Inside parcel → Holds p (received pe parcel)
    received_holds parcel k = record { room = h.room; hand = k; outbox = h.outbox }

    noted_holds : Holds p (noted pe)
    noted_holds = record { room = h.room; hand = h.hand; outbox = h.outbox }

    handled_holds : (step : Step C) (pack : C → List ℕ) (e : ℕ) (done : Done) (hand : Option Item) (el : ElementView C) → found e pe.room ≡ Some el
        → R p e (ran step pack el pe.n pe.me done).progress.round (el.journal ++ done ∷ []) → IfSome hand Boxed → Holds p (handled step pack pe e done hand)
    handled_holds step pack e done hand el at new held =
        let was : Standing p e el = each_found (Standing p) e pe.room el h.room at in
        let there : ran_in step pack pe.room e pe.n pe.me done ≡ changed e (ran step pack el pe.n pe.me done) pe.room = rw at refl in
        record {
          room = subst (λ (v : List (ℕ × ElementView C)). EachAt (Standing p) v) (sym there)
              (each_changed (Standing p) e (ran step pack el pe.n pe.me done) pe.room (was.0, new) h.room);
          hand = held;
          outbox = All-append Boxed pe.outbox _ h.outbox (letters_inside pe.me pe.count _);
        }

    looked_in_holds : (q : ℕ) (o : Option ℕ) → Holds p (looked_in pe q o)
    looked_in_holds q (Some e) = record { room = h.room; hand = at_hand Inside q pe.hand h.hand; outbox = h.outbox }
    looked_in_holds q None = record { room = h.room; hand = h.hand; outbox = at_front Inside q pe.outbox h.outbox }

    departed_holds : (pack : C → List ℕ) (e q : ℕ) (el : ElementView C) → found e pe.room ≡ Some el → K e el.progress.round el.journal → Holds p (departed pack pe e q)
    departed_holds pack e q el at goes =
        let was : Standing p e el = each_found (Standing p) e pe.room el h.room at in
        let new : K el.index el.progress.round el.journal = subst (λ (v : ℕ). K v el.progress.round el.journal) (sym was.0) goes in
        let left : All Boxed (option_to_list (option_map (element_at q) (option_map (packed pack) (found e pe.room)))) =
        subst (λ (v : Option (ElementView C)). All Boxed (option_to_list (option_map (element_at q) (option_map (packed pack) v)))) (sym at)
        (All-cons Boxed (element_at q (packed pack el)) [] new (All-nil Boxed)) in
        record { room = each_without (Standing p) e pe.room h.room; hand = h.hand; outbox = All-append Boxed pe.outbox _ h.outbox left }

    installed_holds : (x : PackedView) (chare : C) → R p x.index x.progress.round x.journal → Holds p (installed pe x chare)
    installed_holds x chare k =
        record {
          room = each_joined (Standing p) x.index (unpacked x chare) pe.room (refl, k) h.room;
          hand = tt;
          outbox = All-append Boxed pe.outbox _ h.outbox (unshelved_inside pe.me (filter (is_for x.index) pe.shelf));
        }

  -- ---- an event that leaves the queues alone

  module _ {C A : Type 0} (step : Step C) (pack : C → List ℕ) (unpack : List ℕ → Result (C × ℕ) PupError) (event : Event) (p known : ℕ) (d : LocalView C A)
      (h : Holds p d.pe) (allows : Allows event p known d.pe d.board)
      (informed : (e round : ℕ) → Frees event e → waits_at d.pe e ≡ Some round → round ≤ known) where
    found_holds : (e : ℕ) (el : ElementView C) → found e d.pe.room ≡ Some el → R p e el.progress.round el.journal
    found_holds e el at = (each_found (Standing p) e d.pe.room el h.room at).1

    -- the round of an element that is due is known, and comes after the one after which it was resumed last
    known_round : (e round q : ℕ) → Frees event e → (x : IsDue d.pe d.board e round q) → x.el.progress.round + 1 ≤ known
    known_round e round q frees x =
        let next : round ≡ x.el.progress.round + 1 = waits_next x.el round x.waits in
        let le : round ≤ known = informed e round frees (ap (option_and_then waits_for) x.stands ∙ x.waits) in
        omega (arith, le, next)

    goes_on_holds : (e round : ℕ) → Frees event e → IsDue d.pe d.board e round p → Holds p (resumed step pack d.pe e round)
    goes_on_holds e round frees x =
        let next : round ≡ x.el.progress.round + 1 = waits_next x.el round x.waits in
        let place : place_in d.board (x.el.progress.round + 1) e ≡ Some p = subst (λ (v : ℕ). place_in d.board v e ≡ Some p) next x.place in
        let went : R p e round (x.el.journal ++ Resumption round ∷ []) =
        subst (λ (v : ℕ). R p e v (x.el.journal ++ Resumption v ∷ [])) (sym next)
        (allows.goes_on e x.el.progress.round x.el.journal (found_holds e x.el x.stands) place (known_round e round p frees x)) in
        handled_holds p d.pe h step pack e (Resumption round) d.pe.hand x.el x.stands
        (subst (λ (v : ℕ). R p e v (x.el.journal ++ Resumption round ∷ [])) (sym (resumed_round step pack x.el d.pe.n d.pe.me round)) went) h.hand

    starts_holds : (e : ℕ) (el : ElementView C) → found e d.pe.room ≡ Some el → Holds p (resumed step pack d.pe e 0)
    starts_holds e el at =
        handled_holds p d.pe h step pack e (Resumption 0) d.pe.hand el at
        (subst (λ (v : ℕ). R p e v (el.journal ++ Resumption 0 ∷ [])) (sym (resumed_round step pack el d.pe.n d.pe.me 0))
        (allows.starts e el.progress.round el.journal (found_holds e el at))) h.hand

    executes_holds : (l : LetterView) (o : Option ℕ) (el : ElementView C) → IsInHand d.pe (Letter l) o → found l.to d.pe.room ≡ Some el → Holds p (executed step pack d.pe l).pe
    executes_holds l o el x at =
        handled_holds p d.pe h step pack l.to (OfLetter l) None el at
        (subst (λ (v : ℕ). R p l.to v (el.journal ++ OfLetter l ∷ [])) (sym (same_round step pack el d.pe.n d.pe.me l))
        (allows.executes el.progress.round el.journal x.item l x.hand x.is (found_holds l.to el at))) tt

    installs_holds : (x : PackedView) (o : Option ℕ) (chare : C) → IsAct event → IsInHand d.pe (Element x) o → Holds p (installed d.pe x chare)
    installs_holds x o chare acts y =
        let it : Inside y.item.parcel = subst (λ (v : Option Item). IfSome v Boxed) y.hand h.hand in
        installed_holds p d.pe h x chare (allows.comes y.item x acts y.hand y.is (subst Inside y.is it))

    pub turn_holds : EachOwnTurn step pack unpack event p d (Holds p)
    turn_holds =
        record {
          starts = λ e el calm at. starts_holds e el at;
          goes_on = λ e round calm frees x. goes_on_holds e round frees x;
          departs = λ e round q calm frees x. departed_holds p d.pe h pack e q x.el x.stands
              (allows.leaves e x.el.progress.round x.el.journal (found_holds e x.el x.stands) (known_round e round q frees x));
          looks = λ e word calm wants at. looked_in_holds p d.pe h word (hand_wants d.pe);
          executes = λ l o el acts x at. executes_holds l o el x at;
          shelves = λ l q acts x here. record { room = h.room; hand = tt; outbox = h.outbox };
          forwards = λ l q acts x other. record { room = h.room; hand = tt; outbox = All-push Boxed d.pe.outbox (letter_at q (hopped l)) h.outbox tt };
          installs = installs_holds;
          reports = λ calm. noted_holds p d.pe h;
        }
