-- What a letter in each place is bound for: the place of its element after a round that is known there. And that an element in each place
-- is bound for such a place of its own, so that a letter to an element of a room may stay there.
use Rattle.std.proofs.Common.{◌≡◌, ◌≢◌, ℕ, ◌+◌, ◌≤◌, min, List, [], ◌∷◌, length, Option, Some, None, arith, refl, sym, ◌∙◌, ap, subst}
use Rattle.std.specs.Prelude.{All, IfSome, not, is_some, if◌then◌else◌}
use Rattle.std.specs.List.{filter}
use Rattle.std.specs.Option.{option_map, option_map_or, option_or, option_to_list}
use Rattle.std.proofs.lemmas.List.Elements.{All-nil, All-cons, All-head, All-tail, All-append, All-push, All-drop, All-map, All-weaker, All-filter}
use Rattle.sync_board.specs.Boards.{BoardState}
use Rattle.chares.specs.declared.carried.Carried.TheVariants.{Letter, Element}
use Rattle.chares.specs.Elements.{ElementView, PackedView, packed, unpacked, ran}
use Rattle.chares.specs.Letters.{LetterView, Done, hopped}
use Rattle.chares.specs.Posting.{letters_of, letter_to}
use Rattle.chares.specs.Steps.{Step}
use Rattle.pe_state.specs.Pes.{PeView, Parcel, Item, wanted, hand_wants, front_wants, front_parcel, front_address, front_at, looked, looked_in, at_pe, letter_at, element_at, is_for, gave_up, received, noted, handled, departed, shelving, forwarding, installed}
use Rattle.pe_state.specs.Rooms.{found, changed, ran_in}
use Rattle.rts_core.proofs.Rooms.{EachAt, each_found, each_changed, each_joined, each_without}
use Rattle.event_laws.proofs.LocalMoves.{hand_look, front_look}
use Rattle.overtaking_laws.specs.StampedRuns.{Stamped, place_after, moves_until}
use Rattle.overtaking_laws.proofs.Everywhere.{each_weaker}
use Rattle.overtaking_laws.proofs.RoundPlaces.{IsLater, moves_more, place_stays, moves_stay}
use Rattle.overtaking_laws.proofs.SeenWords.{place_seen, seen_there}

-- a letter is bound for PE a: that is the place of its element after a round which is at most this one, and no more rounds have
-- moved its element than it was forwarded
module _ {A : Type 0} (n pes : ℕ) (b : BoardState A) where
  pub record Aims (l : LetterView) (a limit : ℕ) : Type 0 where
    pub round : ℕ
    pub within : round ≤ limit
    pub placed : place_after n pes b l.to round ≡ a
    pub few : l.hops ≤ moves_until n pes b l.to round

  -- PE a is the place of element e after a round which is at most this one
  pub record IsPlaced (e a limit : ℕ) : Type 0 where
    pub round : ℕ
    pub within : round ≤ limit
    pub placed : place_after n pes b e round ≡ a

  -- a parcel with its address in the hand of PE p, where this round is known: a letter came there, and would be nearer if it were
  -- forwarded; and it is a place of an element that came
  abbrev pub IsHeld : ℕ → ℕ → Parcel → Option ℕ → Type 0
  IsHeld p known (Letter l) None = Aims l p known
  IsHeld p known (Letter l) (Some a) = Aims l p known × (a ≢ p → Aims (hopped l) a known)
  IsHeld p known (Element x) o = IsPlaced x.index p known

  -- one in an outbox: a letter without an address was not forwarded yet
  abbrev pub IsOut : ℕ → Parcel → Option ℕ → Type 0
  IsOut known (Letter l) None = l.hops ≡ 0
  IsOut known (Letter l) (Some a) = Aims l a known
  IsOut known (Element x) None = Unit {0}
  IsOut known (Element x) (Some a) = IsPlaced x.index a known

  -- one in the queue of PE q: what its sender knew is decided
  abbrev pub IsQueued : ℕ → Stamped → Type 0
  IsQueued q (stamp, Letter l) = (stamp ≤ length b.rounds) × Aims l q stamp
  IsQueued q (stamp, Element x) = (stamp ≤ length b.rounds) × IsPlaced x.index q stamp

  abbrev pub HeldItem : ℕ → ℕ → Item → Type 0
  HeldItem p known x = IsHeld p known x.parcel x.address

  abbrev pub OutItem : ℕ → Item → Type 0
  OutItem known x = IsOut known x.parcel x.address

  abbrev pub OnShelf : ℕ → ℕ → LetterView → Type 0
  OnShelf p known l = Aims l p known

  -- an element that stands in the room of PE p
  abbrev pub InRoom : {C : Type 0} → ℕ → ℕ → ℕ → ElementView C → Type 0
  InRoom p known e el = (el.index ≡ e) × IsPlaced e p known

  -- all that PE p has, where this round is known
  pub record LettersAim {C : Type 0} (p known : ℕ) (pe : PeView C) : Type 0 where
    pub me : pe.me ≡ p
    pub room : EachAt (InRoom {C = C} p known) pe.room
    pub hand : IfSome pe.hand (HeldItem p known)
    pub shelf : All (OnShelf p known) pe.shelf
    pub outbox : All (OutItem known) pe.outbox

  -- ---- a later round is known

  pub aims_more : (l : LetterView) (a known more : ℕ) → known ≤ more → Aims l a known → Aims l a more
  aims_more l a known more le h =
      let within = h.within in
      record { round = h.round; within = omega (arith, within, le); placed = h.placed; few = h.few }

  placed_more : (e a known more : ℕ) → known ≤ more → IsPlaced e a known → IsPlaced e a more
  placed_more e a known more le h =
      let within = h.within in
      record { round = h.round; within = omega (arith, within, le); placed = h.placed }

  held_more : (p known more : ℕ) → known ≤ more → (parcel : Parcel) (o : Option ℕ) → IsHeld p known parcel o → IsHeld p more parcel o
  held_more p known more le (Letter l) None h = aims_more l p known more le h
  held_more p known more le (Letter l) (Some a) h = (aims_more l p known more le h.0, λ other. aims_more (hopped l) a known more le (h.1 other))
  held_more p known more le (Element x) o h = placed_more x.index p known more le h

  out_more : (known more : ℕ) → known ≤ more → (parcel : Parcel) (o : Option ℕ) → IsOut known parcel o → IsOut more parcel o
  out_more known more le (Letter l) None h = h
  out_more known more le (Letter l) (Some a) h = aims_more l a known more le h
  out_more known more le (Element x) None h = tt
  out_more known more le (Element x) (Some a) h = placed_more x.index a known more le h

  pub letters_more : {C : Type 0} (p known more : ℕ) (pe : PeView C) → known ≤ more → LettersAim p known pe → LettersAim p more pe
  letters_more {C} p known more pe le h =
      record {
        me = h.me;
        room = each_weaker (InRoom {C = C} p known) (InRoom {C = C} p more) (λ e el k. (k.0, placed_more e p known more le k.1)) pe.room h.room;
        hand = hand_more pe.hand h.hand;
        shelf = All-weaker (OnShelf p known) (OnShelf p more) (λ l k. aims_more l p known more le k) pe.shelf h.shelf;
        outbox = All-weaker (OutItem known) (OutItem more) (λ x k. out_more known more le x.parcel x.address k) pe.outbox h.outbox;
      }
    where
      hand_more : (o : Option Item) → IfSome o (HeldItem p known) → IfSome o (HeldItem p more)
      hand_more None k = tt
      hand_more (Some x) k = held_more p known more le x.parcel x.address k

  -- ---- what a PE does

  -- what came in time
  pub came_in_time : (p known : ℕ) (stamp : ℕ) (parcel : Parcel) → IsQueued p (stamp, parcel) → stamp ≤ known → IsHeld p known parcel None
  came_in_time p known stamp (Letter l) h le = aims_more l p stamp known le h.1
  came_in_time p known stamp (Element x) h le = placed_more x.index p stamp known le h.1

  -- what is put into a queue
  pub goes_out : (q known : ℕ) (outbox : List Item) (parcel : Parcel) → known ≤ length b.rounds → All (OutItem known) outbox → front_parcel outbox ≡ Some parcel
      → front_address outbox ≡ Some q → IsQueued q (known, parcel)
  goes_out q known [] parcel le all front to = cc
  goes_out q known (x ∷ xs) parcel le all front to =
      let is : x.parcel ≡ parcel = cc in
      let at : x.address ≡ Some q = to in
      by parcel (subst (λ (o : Option ℕ). IsOut known parcel o) at
      (subst (λ (v : Parcel). IsOut known v x.address) is (All-head (OutItem known) x xs all)))
    where
      by : (v : Parcel) → IsOut known v (Some q) → IsQueued q (known, v)
      by (Letter l) k = (le, k)
      by (Element y) k = (le, k)

  posted_out : (known me k : ℕ) (sends : List (ℕ × List ℕ)) → All (OutItem known) (letters_of {P = PackedView} me k sends)
  posted_out known me k [] = All-nil (OutItem known)
  posted_out known me k (send ∷ sends) =
      All-cons (OutItem known) (record { parcel = Letter (letter_to me k send.0 send.1); address = None }) (letters_of {P = PackedView} me (k + 1) sends)
      refl (posted_out known me (k + 1) sends)

  few_hops : (hops moves : ℕ) → hops + 1 ≤ moves → min 4294967295 (hops + 1) ≤ moves
  few_hops hops moves le = grind arith

  -- a letter that came by the places of a round would go on by those of a later one, where these differ
  goes_on : (l : LetterView) (p a known : ℕ) → a ≡ place_after n pes b l.to known → Aims l p known → a ≢ p → Aims (hopped l) a known
  goes_on l p a known is h other =
      let apart : place_after n pes b l.to h.round ≢ place_after n pes b l.to known = λ same. other (is ∙ (sym same ∙ h.placed)) in
      let more = moves_more n pes b l.to h.round known h.within apart in
      let few = h.few in
      record {
        round = known;
        within = omega arith;
        placed = sym is;
        few = few_hops l.hops (moves_until n pes b l.to known) (omega (arith, few, more));
      }

  -- an element of a room handles an entry
  ran_room : {C : Type 0} (p known : ℕ) (step : Step C) (pack : C → List ℕ) (room : List (ℕ × ElementView C)) (e k me : ℕ) (done : Done)
      → EachAt (InRoom {C = C} p known) room → EachAt (InRoom {C = C} p known) (ran_in step pack room e k me done)
  ran_room {C} p known step pack room e k me done all = by (found e room) refl
    where
      by : (o : Option (ElementView C)) → found e room ≡ o
          → EachAt (InRoom {C = C} p known) (option_map_or (λ el. changed e (ran step pack el k me done) room) o room)
      by None at = all
      by (Some el) at =
          let was : InRoom {C = C} p known e el = each_found (InRoom {C = C} p known) e room el all at in
          each_changed (InRoom {C = C} p known) e (ran step pack el k me done) room (was.0, was.1) all

  module _ {C : Type 0} (p known : ℕ) (pe : PeView C) (h : LettersAim p known pe) where
    pub gave_up_aims : LettersAim p known (gave_up pe)
    gave_up_aims = record { me = h.me; room = h.room; hand = h.hand; shelf = h.shelf; outbox = All-drop (OutItem known) 1 pe.outbox h.outbox }

    pub received_aims : (parcel : Parcel) → IsHeld p known parcel None → LettersAim p known (received pe parcel)
    received_aims parcel k = record { me = h.me; room = h.room; hand = k; shelf = h.shelf; outbox = h.outbox }

    pub noted_aims : LettersAim p known (noted pe)
    noted_aims = record { me = h.me; room = h.room; hand = h.hand; shelf = h.shelf; outbox = h.outbox }

    pub handled_aims : (step : Step C) (pack : C → List ℕ) (e : ℕ) (done : Done) (hand : Option Item) → IfSome hand (HeldItem p known)
        → LettersAim p known (handled step pack pe e done hand)
    handled_aims step pack e done hand k =
        record {
          me = h.me;
          room = ran_room p known step pack pe.room e pe.n pe.me done h.room;
          hand = k;
          shelf = h.shelf;
          outbox = All-append (OutItem known) pe.outbox _ h.outbox (posted_out known pe.me pe.count _);
        }

    pub departed_aims : (pack : C → List ℕ) (e q : ℕ) → IsPlaced e q known → LettersAim p known (departed pack pe e q)
    departed_aims pack e q goes =
        record {
          me = h.me;
          room = each_without (InRoom {C = C} p known) e pe.room h.room;
          hand = h.hand;
          shelf = h.shelf;
          outbox = All-append (OutItem known) pe.outbox _ h.outbox (leaves (found e pe.room) refl);
        }
      where
        leaves : (o : Option (ElementView C)) → found e pe.room ≡ o → All (OutItem known) (option_to_list (option_map (element_at q) (option_map (packed pack) o)))
        leaves None at = All-nil (OutItem known)
        leaves (Some el) at =
            let was : InRoom {C = C} p known e el = each_found (InRoom {C = C} p known) e pe.room el h.room at in
            let there : IsPlaced el.index q known = subst (λ (v : ℕ). IsPlaced v q known) (sym was.0) goes in
            All-cons (OutItem known) (element_at q (packed pack el)) [] there (All-nil (OutItem known))

    -- the place where the PE looks for an element is one after a round that is known
    place_known : (e : ℕ) (o : Option (ElementView C)) → found e pe.room ≡ o → IsPlaced e (if is_some o then p else place_after n pes b e known) known
    place_known e None at = record { round = known; within = omega arith; placed = refl }
    place_known e (Some el) at = (each_found (InRoom {C = C} p known) e pe.room el h.room at).1

    looked_in_aims : (e word : ℕ) (o : Option ℕ) → hand_wants pe ≡ o → option_or o (front_wants pe.outbox) ≡ Some e → word ≡ place_seen n pes b p known pe e
        → LettersAim p known (looked_in pe word o)
    looked_in_aims e word (Some d) wants is at =
        let same : d ≡ e = cc in
        let f = hand_look pe pe.hand d wants in
        let l : LetterView = f.0 in
        let to : l.to ≡ e = f.3 ∙ same in
        let came : Aims l p known = subst (λ (v : Option Item). IfSome v (HeldItem p known)) f.1 h.hand in
        let there : word ≡ place_after n pes b l.to known = (at ∙ ap (place_seen n pes b p known pe) (sym to)) ∙ seen_there n pes b p known pe l.to f.2 in
        let hand : IfSome (option_map (at_pe word) pe.hand) (HeldItem p known) =
        subst (λ (v : Option Item). IfSome (option_map (at_pe word) v) (HeldItem p known)) (sym f.1) (came, λ (other : word ≢ p). goes_on l p word known there came other) in
        record { me = h.me; room = h.room; hand = hand; shelf = h.shelf; outbox = h.outbox }
    looked_in_aims e word None wants is at =
        let f = front_look pe.outbox e is in
        let l : LetterView = f.0 in
        let rest : List Item = f.1 in
        let all : All (OutItem known) (record { parcel = Letter l; address = None } ∷ rest) = subst (All (OutItem known)) f.2 h.outbox in
        let none : l.hops ≡ 0 = All-head (OutItem known) (record { parcel = Letter l; address = None }) rest all in
        let seen : IsPlaced l.to (place_seen n pes b p known pe l.to) known = place_known l.to (found l.to pe.room) refl in
        let goes : Aims l word known = record {
          round = seen.round;
          within = seen.within;
          placed = seen.placed ∙ sym (at ∙ ap (place_seen n pes b p known pe) (sym f.3));
          few = omega (arith, none);
        } in
        let outbox : All (OutItem known) (front_at word pe.outbox) =
        subst (λ (v : List Item). All (OutItem known) (front_at word v)) (sym f.2)
        (All-cons (OutItem known) (record { parcel = Letter l; address = Some word }) rest goes
        (All-tail (OutItem known) (record { parcel = Letter l; address = None }) rest all)) in
        record { me = h.me; room = h.room; hand = h.hand; shelf = h.shelf; outbox = outbox }

    -- a look into the room, and at the places of the round that is known
    pub looked_aims : (e word : ℕ) → wanted pe ≡ Some e → word ≡ place_seen n pes b p known pe e → LettersAim p known (looked pe word)
    looked_aims e word wants at = looked_in_aims e word (hand_wants pe) refl wants at

    pub shelving_aims : (l : LetterView) → Aims l p known → LettersAim p known (shelving pe l).pe
    shelving_aims l k = record { me = h.me; room = h.room; hand = tt; shelf = All-push (OnShelf p known) pe.shelf l h.shelf k; outbox = h.outbox }

    pub forwarding_aims : (l : LetterView) (q : ℕ) → Aims (hopped l) q known → LettersAim p known (forwarding pe l q).pe
    forwarding_aims l q k = record { me = h.me; room = h.room; hand = tt; shelf = h.shelf; outbox = All-push (OutItem known) pe.outbox (letter_at q (hopped l)) h.outbox k }

    pub installed_aims : (x : PackedView) (chare : C) → IsPlaced x.index p known → LettersAim p known (installed pe x chare)
    installed_aims x chare comes =
        record {
          me = h.me;
          room = each_joined (InRoom {C = C} p known) x.index (unpacked x chare) pe.room (refl, comes) h.room;
          hand = tt;
          shelf = All-filter (λ (l : LetterView). not (is_for x.index l)) (OnShelf p known) pe.shelf h.shelf;
          outbox = All-append (OutItem known) pe.outbox _ h.outbox
              (All-map (OutItem known) (letter_at pe.me) (filter (is_for x.index) pe.shelf)
              (All-weaker (OnShelf p known) (λ (l : LetterView). Aims l pe.me known) (λ l k. subst (λ (v : ℕ). Aims l v known) (sym h.me) k)
              (filter (is_for x.index) pe.shelf) (All-filter (is_for x.index) (OnShelf p known) pe.shelf h.shelf)));
        }

-- ---- more rounds are decided

module _ {A : Type 0} (n pes : ℕ) (b b' : BoardState A) (later : IsLater b b') where
  aims_stay : (l : LetterView) (a limit : ℕ) → limit ≤ length b.rounds → Aims n pes b l a limit → Aims n pes b' l a limit
  aims_stay l a limit le h =
      let within = h.within in
      let inside : h.round ≤ length b.rounds = omega (arith, within, le) in
      let few = h.few in
      let same = moves_stay n pes b b' later l.to h.round inside in
      record { round = h.round; within = within; placed = place_stays n pes b b' later l.to h.round inside ∙ h.placed; few = omega (arith, few, same) }

  placed_stay : (e a limit : ℕ) → limit ≤ length b.rounds → IsPlaced n pes b e a limit → IsPlaced n pes b' e a limit
  placed_stay e a limit le h =
      let within = h.within in
      record { round = h.round; within = within; placed = place_stays n pes b b' later e h.round (omega (arith, within, le)) ∙ h.placed }

  held_stay : (p known : ℕ) → known ≤ length b.rounds → (parcel : Parcel) (o : Option ℕ) → IsHeld n pes b p known parcel o → IsHeld n pes b' p known parcel o
  held_stay p known le (Letter l) None h = aims_stay l p known le h
  held_stay p known le (Letter l) (Some a) h = (aims_stay l p known le h.0, λ other. aims_stay (hopped l) a known le (h.1 other))
  held_stay p known le (Element x) o h = placed_stay x.index p known le h

  out_stay : (known : ℕ) → known ≤ length b.rounds → (parcel : Parcel) (o : Option ℕ) → IsOut n pes b known parcel o → IsOut n pes b' known parcel o
  out_stay known le (Letter l) None h = h
  out_stay known le (Letter l) (Some a) h = aims_stay l a known le h
  out_stay known le (Element x) None h = tt
  out_stay known le (Element x) (Some a) h = placed_stay x.index a known le h

  pub queued_stay : (q stamp : ℕ) (parcel : Parcel) → IsQueued n pes b q (stamp, parcel) → IsQueued n pes b' q (stamp, parcel)
  queued_stay q stamp (Letter l) h =
      let before = h.0 in
      let longer = later.longer in
      (omega (arith, before, longer), aims_stay l q stamp before h.1)
  queued_stay q stamp (Element x) h =
      let before = h.0 in
      let longer = later.longer in
      (omega (arith, before, longer), placed_stay x.index q stamp before h.1)

  pub letters_stay : {C : Type 0} (p known : ℕ) (pe : PeView C) → known ≤ length b.rounds → LettersAim n pes b p known pe → LettersAim n pes b' p known pe
  letters_stay {C} p known pe le h =
      record {
        me = h.me;
        room = each_weaker (InRoom n pes b {C = C} p known) (InRoom n pes b' {C = C} p known) (λ e el k. (k.0, placed_stay e p known le k.1)) pe.room h.room;
        hand = hand_stays pe.hand h.hand;
        shelf = All-weaker (OnShelf n pes b p known) (OnShelf n pes b' p known) (λ l k. aims_stay l p known le k) pe.shelf h.shelf;
        outbox = All-weaker (OutItem n pes b known) (OutItem n pes b' known) (λ x k. out_stay known le x.parcel x.address k) pe.outbox h.outbox;
      }
    where
      hand_stays : (o : Option Item) → IfSome o (HeldItem n pes b p known) → IfSome o (HeldItem n pes b' p known)
      hand_stays None k = tt
      hand_stays (Some x) k = held_stay p known le x.parcel x.address k
