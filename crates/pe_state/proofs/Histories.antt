-- What a PE makes of the elements that it holds: each was what its journal says, and still is.
use Rattle.std.proofs.Common.{◌≡◌, ℕ, ◌+◌, ◌<◌, ◌≤◌, inl, inr, List, [], ◌∷◌, ◌++◌, length, map, Bool, true, false, Option, Some, None, Result, Ok, Err, refl, sym, ap, subst, ◌∙◌, nat_eq}
use Rattle.std.specs.Prelude.{All, IfSome, if◌then◌else◌, not, ◌&&◌, slice_get}
use Rattle.std.specs.Option.{option_map, option_map_or, option_to_list}
use Rattle.std.specs.Map.{values_of}
use Rattle.std.specs.Ordering.{nat_cmp}
use Rattle.std.specs.BTreeMap.{is_at}
use Rattle.std.proofs.lemmas.List.Elements.{All-nil, All-cons, All-append, All-push, All-drop, All-head, All-tail}
use Rattle.std.proofs.lemmas.Bool.{eqb-true}
use Rattle.std.proofs.lemmas.Map.Views.{IfSome-lookup_from_All, All-values-set_value, All-values-insert_entry, All-map-remove_entry}
use Rattle.chare_index.specs.declared.limits.TheConstants.Limits.{STATE_BYTES}
use Rattle.pup_pack.specs.declared.error.PupError.{PupError}
use Rattle.chares.specs.declared.carried.Carried.TheVariants.{Letter, Element}
use Rattle.chares.specs.declared.entry.Entry.TheVariants.{Letter as OfLetter, Resumption}
use Rattle.chares.specs.Elements.{ElementView, PackedView, opening_element, packed, unpacked, ran, IsHistory, IsPackedHistory}
use Rattle.chares.specs.Letters.{LetterView, Done}
use Rattle.chares.specs.Orders.{MayHandle}
use Rattle.chares.specs.declared.progress.Progress.{Progress}
use Rattle.chares.specs.Posting.{letters_of}
use Rattle.chares.specs.Steps.{Step}
use Rattle.chares.proofs.Histories.{history_ran, history_opening, history_unpacked, history_within}
use Rattle.pe_state.specs.Histories.{IsParcelHistory, HasHistories}
use Rattle.pe_state.specs.Pes.{PeView, Parcel, Item, at_pe, letter_at, element_at, front_at, front_parcel, new_pe, placed, held, hand_wants, looked, looked_in, received, gave_up, handed_back, noted, handled, resumed, executed, is_due, may_resume, has_started, waits_for, shelving, forwarding, passing, installed, installing, on_letter, on_element, on_parcel, acting_on, acting, departed}
use Rattle.pe_state.specs.Rooms.{found, changed, ran_in, sends_in}

-- the element with this index, where it stands in the room, may handle this entry next
abbrev pub MayHandleAt : {C : Type 0} → PeView C → ℕ → Done → Type 0
MayHandleAt pe e done = IfSome (found e pe.room) (λ el. MayHandle el.progress done)

-- a letter once it has started, and a resumption where it is due
pub may_execute : {C : Type 0} (pe : PeView C) (l : LetterView) → has_started pe l.to ≡ true → MayHandleAt pe l.to (OfLetter l)
may_execute {C} pe l h = by (found l.to pe.room) h
  where
    by : (o : Option (ElementView C)) → option_map_or (λ el. el.progress.started) o false ≡ true → IfSome o (λ el. MayHandle el.progress (OfLetter l))
    by None k = tt
    by (Some el) k = k

not_started : (b : Bool) → not b ≡ true → b ≡ false
not_started true h = cc
not_started false h = refl

waits_for_it : (p : Progress) (round : ℕ) (s e : Bool) → p.synced ≡ s → nat_eq (p.round + 1) round ≡ e → (s && e) ≡ true → (p.synced ≡ true) × (round ≡ p.round + 1)
waits_for_it p round true true s e h = (s, sym (eqb-true (p.round + 1) round e))
waits_for_it p round true false s e h = cc
waits_for_it p round false e s f h = cc

due_handles : (p : Progress) (round : ℕ) → is_due round p ≡ true → MayHandle p (Resumption round)
due_handles p round h = by (nat_eq round 0) refl h
  where
    by : (z : Bool) → nat_eq round 0 ≡ z → (if z then not p.started else (p.synced && nat_eq (p.round + 1) round)) ≡ true → MayHandle p (Resumption round)
    by true z k = inl (not_started p.started k, eqb-true round 0 z)
    by false z k = inr (waits_for_it p round p.synced (nat_eq (p.round + 1) round) refl refl k)

pub may_go_on : {C : Type 0} (pe : PeView C) (e round : ℕ) → may_resume pe e round ≡ true → MayHandleAt pe e (Resumption round)
may_go_on {C} pe e round h = by (found e pe.room) h
  where
    by : (o : Option (ElementView C)) → option_map_or (λ el. is_due round el.progress) o false ≡ true → IfSome o (λ el. MayHandle el.progress (Resumption round))
    by None k = tt
    by (Some el) k = due_handles el.progress round k

-- a start, of an element that has not started, and the resumption for the round for whose end an element waits
pub may_start : {C : Type 0} (pe : PeView C) (e : ℕ) (el : ElementView C) → found e pe.room ≡ Some el → el.progress.started ≡ false → MayHandleAt pe e (Resumption 0)
may_start {C} pe e el at fresh = subst (λ (o : Option (ElementView C)). IfSome o (λ el. MayHandle el.progress (Resumption 0))) (sym at) (inl (fresh, refl))

pub waits_is : {C : Type 0} (el : ElementView C) (round : ℕ) → waits_for el ≡ Some round → (el.progress.synced ≡ true) × (round ≡ el.progress.round + 1)
waits_is el round h = by el.progress.synced refl h
  where
    by : (b : Bool) → el.progress.synced ≡ b → (if b then Some (el.progress.round + 1) else None) ≡ Some round → (el.progress.synced ≡ true) × (round ≡ el.progress.round + 1)
    by true t k = (t, cc)
    by false t k = cc

pub may_resume_after : {C : Type 0} (pe : PeView C) (e round : ℕ) (el : ElementView C) → found e pe.room ≡ Some el → waits_for el ≡ Some round → MayHandleAt pe e (Resumption round)
may_resume_after {C} pe e round el at waits = subst
    (λ (o : Option (ElementView C)). IfSome o (λ el. MayHandle el.progress (Resumption round))) (sym at) (inr (waits_is el round waits))

module _ {C : Type 0} {step : Step C} {fits : C → Type 0} {pack : C → List ℕ} {opened : List C} where
  -- a PE that is seen otherwise
  pub holds_same : {v now : PeView C} → v ≡ now → HasHistories step fits pack opened now → HasHistories step fits pack opened v
  holds_same {v} {now} e h = subst (λ (x : PeView C). HasHistories step fits pack opened x) (sym e) h

  -- and one whose other parts have changed
  pub still_holds : {v w : PeView C} → HasHistories step fits pack opened v → w.n ≡ v.n → w.room ≡ v.room → w.hand ≡ v.hand
      → w.outbox ≡ v.outbox → HasHistories step fits pack opened w
  still_holds {v} {w} h n room hand outbox =
      record {
        same_array = n ∙ h.same_array;
        room = subst (λ (r : List (ℕ × ElementView C)). All (IsHistory step pack opened) (values_of r)) (sym room) h.room;
        hand = subst (λ (o : Option Item). IfSome o (λ x. IsParcelHistory step fits pack opened x.parcel)) (sym hand) h.hand;
        outbox = subst (λ (xs : List Item). All (λ x. IsParcelHistory step fits pack opened x.parcel) xs) (sym outbox) h.outbox;
      }

  -- an element of its room is one of the array
  pub member_of : {pe : PeView C} (e : ℕ) → HasHistories step fits pack opened pe → IfSome (found e pe.room) (λ el. el.index < pe.n)
  member_of {pe} e h = by (found e pe.room) (IfSome-lookup_from_All (IsHistory step pack opened) (is_at (nat_cmp e)) pe.room h.room)
    where
      by : (o : Option (ElementView C)) → IfSome o (IsHistory step pack opened) → IfSome o (λ el. el.index < pe.n)
      by None k = tt
      by (Some el) k = subst (λ (n : ℕ). el.index < n) (sym h.same_array) (history_within step pack opened el k)

  pub stands_within : {pe : PeView C} {el : ElementView C} {e : ℕ} → HasHistories step fits pack opened pe → Some el ≡ found e pe.room → el.index ≡ e → e < length opened
  stands_within {pe} {el} {e} h at is =
      let inside : el.index < pe.n = subst (λ (o : Option (ElementView C)). IfSome o (λ el. el.index < pe.n)) (sym at) (member_of e h) in
      subst (λ (n : ℕ). e < n) h.same_array (subst (λ (i : ℕ). i < pe.n) is inside)

module _ {C : Type 0} (step : Step C) (fits : C → Type 0) (pack : C → List ℕ) (opened : List C) where
  -- what lies in a hand or in an outbox
  abbrev pub IsItemHistory : Item → Type 0
  IsItemHistory x = IsParcelHistory step fits pack opened x.parcel

  -- a PE as it opens, and with one more element placed
  pub new_holds : (me n : ℕ) → n ≡ length opened → HasHistories step fits pack opened (new_pe me n)
  new_holds me n same =
      record {
        same_array = same;
        room = All-nil (IsHistory step pack opened);
        hand = tt;
        outbox = All-nil (λ (x : Item). IsParcelHistory step fits pack opened x.parcel);
      }

  pub placed_holds : (pe : PeView C) (e : ℕ) (chare : C) → HasHistories step fits pack opened pe → slice_get opened e ≡ Some chare
      → HasHistories step fits pack opened (placed pe e chare)
  placed_holds pe e chare h at =
      record {
        same_array = h.same_array;
        room = All-values-insert_entry nat_cmp e (opening_element e chare) (IsHistory step pack opened) pe.room h.room (history_opening step pack opened e chare at);
        hand = h.hand;
        outbox = h.outbox;
      }

  -- an element runs in its room
  ran_room_at : (room : List (ℕ × ElementView C)) (e n pe : ℕ) (done : Done) (o : Option (ElementView C)) → n ≡ length opened
      → All (IsHistory step pack opened) (values_of room) → IfSome o (IsHistory step pack opened)
      → IfSome o (λ el. MayHandle el.progress done) → All (IsHistory step pack opened)
      (values_of (option_map_or (λ el. changed e (ran step pack el n pe done) room) o room))
  ran_room_at room e n pe done None same all h may = all
  ran_room_at room e n pe done (Some el) same all h may =
      All-values-set_value (is_at (nat_cmp e)) (IsHistory step pack opened) room (ran step pack el n pe done) all
      (subst (λ (k : ℕ). IsHistory step pack opened (ran step pack el k pe done)) (sym same) (history_ran step pack opened el pe done h may))

  ran_room : (room : List (ℕ × ElementView C)) (e n pe : ℕ) (done : Done) → n ≡ length opened
      → All (IsHistory step pack opened) (values_of room) → IfSome (found e room) (λ el. MayHandle el.progress done)
      → All (IsHistory step pack opened) (values_of (ran_in step pack room e n pe done))
  ran_room room e n pe done same all may =
      ran_room_at room e n pe done (found e room) same all
      (IfSome-lookup_from_All (IsHistory step pack opened) (is_at (nat_cmp e)) room all) may

  -- letters are no elements
  letters_hold : (me k : ℕ) (sends : List (ℕ × List ℕ)) → All IsItemHistory (letters_of {P = PackedView} me k sends)
  letters_hold me k [] = All-nil IsItemHistory
  letters_hold me k (send ∷ sends) =
      All-cons IsItemHistory (record { parcel = Letter (record { id = (me, k); to = send.0; body = send.1; hops = 0 }); address = None })
      (letters_of {P = PackedView} me (k + 1) sends) tt (letters_hold me (k + 1) sends)

  unshelved_hold : (q : ℕ) (letters : List LetterView) → All IsItemHistory (map (letter_at q) letters)
  unshelved_hold q [] = All-nil IsItemHistory
  unshelved_hold q (l ∷ letters) = All-cons IsItemHistory (letter_at q l) (map (letter_at q) letters) tt (unshelved_hold q letters)

  -- after a handler
  pub handled_holds : (pe : PeView C) (e : ℕ) (done : Done) (hand : Option Item) → HasHistories step fits pack opened pe
      → MayHandleAt pe e done → IfSome hand IsItemHistory → HasHistories step fits pack opened (handled step pack pe e done hand)
  handled_holds pe e done hand h may held =
      record {
        same_array = h.same_array;
        room = ran_room pe.room e pe.n pe.me done h.same_array h.room may;
        hand = held;
        outbox = All-append IsItemHistory pe.outbox _ h.outbox (letters_hold pe.me pe.count _);
      }

  -- so of a PE whose parts are those after it: outbox0 is the outbox before
  pub handler_holds : {v w : PeView C} (e : ℕ) (done : Done) (hand : Option Item) (outbox0 : List Item)
      → HasHistories step fits pack opened v → MayHandleAt v e done → IfSome hand IsItemHistory
      → w.n ≡ v.n
      → w.room ≡ ran_in step pack v.room e v.n v.me done
      → w.hand ≡ hand
      → outbox0 ≡ v.outbox
      → w.outbox ≡ outbox0 ++ letters_of v.me v.count (sends_in step pack v.room e v.n done)
      → HasHistories step fits pack opened w
  handler_holds {v} {w} e done hand outbox0 h may held n room same o posted =
      still_holds (handled_holds v e done hand h may held) n room same
      (posted ∙ ap (λ xs. xs ++ letters_of v.me v.count (sends_in step pack v.room e v.n done)) o)

  pub resumed_holds : (pe : PeView C) (e round : ℕ) → HasHistories step fits pack opened pe → MayHandleAt pe e (Resumption round)
      → HasHistories step fits pack opened (resumed step pack pe e round)
  resumed_holds pe e round h may = handled_holds pe e (Resumption round) pe.hand h may h.hand

  -- Look
  pub looked_in_holds : (pe : PeView C) (q : ℕ) (o : Option ℕ) → HasHistories step fits pack opened pe → HasHistories step fits pack opened (looked_in pe q o)
  looked_in_holds pe q (Some e) h =
      record { same_array = h.same_array; room = h.room; hand = at_hand pe.hand h.hand; outbox = h.outbox }
    where
      at_hand : (o : Option Item) → IfSome o IsItemHistory → IfSome (option_map (at_pe q) o) IsItemHistory
      at_hand None k = tt
      at_hand (Some x) k = k
  looked_in_holds pe q None h =
      record { same_array = h.same_array; room = h.room; hand = h.hand; outbox = at_front pe.outbox h.outbox }
    where
      at_front : (xs : List Item) → All IsItemHistory xs → All IsItemHistory (front_at q xs)
      at_front [] k = k
      at_front (x ∷ xs) k = All-cons IsItemHistory (at_pe q x) xs (All-head IsItemHistory x xs k) (All-tail IsItemHistory x xs k)

  pub looked_holds : (pe : PeView C) (q : ℕ) → HasHistories step fits pack opened pe → HasHistories step fits pack opened (looked pe q)
  looked_holds pe q h = looked_in_holds pe q (hand_wants pe) h

  -- Depart
  leaving_holds : (q : ℕ) (o : Option (ElementView C)) → IfSome o (IsHistory step pack opened) → IfSome o (λ el. fits el.chare)
      → All IsItemHistory (option_to_list (option_map (element_at q) (option_map (packed pack) o)))
  leaving_holds q None h f = All-nil IsItemHistory
  leaving_holds q (Some el) h f =
      All-cons IsItemHistory (element_at q (packed pack el)) [] (record { chare = el.chare; is_value = f; is_pack = refl; is_history = h }) (All-nil IsItemHistory)

  pub departed_holds : (pe : PeView C) (e q : ℕ) → HasHistories step fits pack opened pe → IfSome (found e pe.room) (λ el. fits el.chare)
      → HasHistories step fits pack opened (departed pack pe e q)
  departed_holds pe e q h f =
      record {
        same_array = h.same_array;
        room = All-map-remove_entry (is_at (nat_cmp e)) (λ x. x.1) (IsHistory step pack opened) pe.room h.room;
        hand = h.hand;
        outbox = All-append IsItemHistory pe.outbox _ h.outbox
            (leaving_holds q (found e pe.room) (IfSome-lookup_from_All (IsHistory step pack opened) (is_at (nat_cmp e)) pe.room h.room) f);
      }

  -- Report
  pub noted_holds : (pe : PeView C) → HasHistories step fits pack opened pe → HasHistories step fits pack opened (noted pe)
  noted_holds pe h = record { same_array = h.same_array; room = h.room; hand = h.hand; outbox = h.outbox }

  -- Flush
  pub gave_up_holds : (pe : PeView C) → HasHistories step fits pack opened pe → HasHistories step fits pack opened (gave_up pe)
  gave_up_holds pe h =
      record { same_array = h.same_array; room = h.room; hand = h.hand; outbox = All-drop IsItemHistory 1 pe.outbox h.outbox }

  pub front_holds : (outbox : List Item) → All IsItemHistory outbox → IfSome (front_parcel outbox) (IsParcelHistory step fits pack opened)
  front_holds [] h = tt
  front_holds (x ∷ xs) h = All-head IsItemHistory x xs h

  pub handed_back_holds : (pe : PeView C) (parcel : Parcel) → HasHistories step fits pack opened pe
      → IsParcelHistory step fits pack opened parcel → HasHistories step fits pack opened (handed_back pe parcel)
  handed_back_holds pe parcel h k =
      record { same_array = h.same_array; room = h.room; hand = h.hand; outbox = All-cons IsItemHistory (record { parcel = parcel; address = pe.kept }) pe.outbox k h.outbox }

  -- Deliver
  pub first_holds : (outbox xs : List Item) (x : Item) → outbox ≡ x ∷ xs → All IsItemHistory outbox → IsItemHistory x
  first_holds outbox xs x e h = All-head IsItemHistory x xs (subst (λ (v : List Item). All IsItemHistory v) e h)

  pub received_holds : (pe : PeView C) (parcel : Parcel) → HasHistories step fits pack opened pe
      → IsParcelHistory step fits pack opened parcel → HasHistories step fits pack opened (received pe parcel)
  received_holds pe parcel h k = record { same_array = h.same_array; room = h.room; hand = k; outbox = h.outbox }

  -- with a parcel in its hand again, and with an empty hand
  pub held_holds : (pe : PeView C) (parcel : Parcel) (look : Option ℕ) → HasHistories step fits pack opened pe
      → IsParcelHistory step fits pack opened parcel → HasHistories step fits pack opened (held pe parcel look)
  held_holds pe parcel look h k = record { same_array = h.same_array; room = h.room; hand = k; outbox = h.outbox }

  pub emptied_holds : (pe : PeView C) (hand : Option Item) → hand ≡ None → HasHistories step fits pack opened pe → HasHistories step fits pack opened (record pe { hand = hand })
  emptied_holds pe hand e h =
      record { same_array = h.same_array; room = h.room; hand = subst (λ (o : Option Item). IfSome o IsItemHistory) (sym e) tt; outbox = h.outbox }

  -- Act
  pub shelving_holds : (pe : PeView C) (l : LetterView) → HasHistories step fits pack opened pe → HasHistories step fits pack opened (shelving pe l).pe
  shelving_holds pe l h = record { same_array = h.same_array; room = h.room; hand = tt; outbox = h.outbox }

  pub forwarding_holds : (pe : PeView C) (l : LetterView) (q : ℕ) → HasHistories step fits pack opened pe → HasHistories step fits pack opened (forwarding pe l q).pe
  forwarding_holds pe l q h =
      record { same_array = h.same_array; room = h.room; hand = tt; outbox = All-push IsItemHistory pe.outbox _ h.outbox tt }

  passing_holds : (pe : PeView C) (l : LetterView) (look : Option ℕ) → HasHistories step fits pack opened pe
      → IfSome (passing pe l look) (λ a. HasHistories step fits pack opened a.pe)
  passing_holds pe l None h = tt
  passing_holds pe l (Some q) h = by (nat_eq q pe.me)
    where
      by : (b : Bool) → HasHistories step fits pack opened (if b then shelving pe l else forwarding pe l q).pe
      by true = shelving_holds pe l h
      by false = forwarding_holds pe l q h

  letter_holds : (pe : PeView C) (l : LetterView) (look : Option ℕ) (o : Option (ElementView C)) → found l.to pe.room ≡ o
      → HasHistories step fits pack opened pe → IfSome (on_letter step pack pe l look o) (λ a. HasHistories step fits pack opened a.pe)
  letter_holds pe l look (Some el) at h = by el.progress.started refl
    where
      by : (b : Bool) → el.progress.started ≡ b → IfSome (if b then Some (executed step pack pe l) else None) (λ a. HasHistories step fits pack opened a.pe)
      by true started = handled_holds pe l.to (OfLetter l) None h (subst (λ (o : Option (ElementView C)). IfSome o (λ el. MayHandle el.progress (OfLetter l))) (sym at) started) tt
      by false started = tt
  letter_holds pe l look None at h = passing_holds pe l look h

  -- with one more letter at the back of its outbox: outbox0 is the outbox before
  pub posted_holds : {v w : PeView C} (l : LetterView) (q : Option ℕ) (outbox0 : List Item) → HasHistories step fits pack opened v
      → w.n ≡ v.n → w.room ≡ v.room → w.hand ≡ v.hand → outbox0 ≡ v.outbox
      → w.outbox ≡ outbox0 ++ record { parcel = Letter l; address = q } ∷ []
      → HasHistories step fits pack opened w
  posted_holds {v} {w} l q outbox0 h n room hand o pushed =
      let x : Item = record { parcel = Letter l; address = q } in
      let more : HasHistories step fits pack opened (record v { outbox = v.outbox ++ x ∷ [] }) =
      record { same_array = h.same_array; room = h.room; hand = h.hand; outbox = All-push IsItemHistory v.outbox x h.outbox tt }
      in
      still_holds more n room hand (pushed ∙ ap (λ xs. xs ++ x ∷ []) o)

  pub installed_holds : (pe : PeView C) (p : PackedView) (chare : C) → HasHistories step fits pack opened pe
      → IsHistory step pack opened (unpacked p chare) → HasHistories step fits pack opened (installed pe p chare)
  installed_holds pe p chare h k =
      record {
        same_array = h.same_array;
        room = All-values-insert_entry nat_cmp p.index (unpacked p chare) (IsHistory step pack opened) pe.room h.room k;
        hand = tt;
        outbox = All-append IsItemHistory pe.outbox _ h.outbox (unshelved_hold pe.me _);
      }

  module _ (counted : C → Type 0) (unpack : List ℕ → Result (C × ℕ) PupError)
      (trip : (s : C) (rest : List ℕ) → fits s → counted s → length (pack s) ≤ STATE_BYTES → unpack (pack s ++ rest) ≡ Ok (s, length (pack s)))
      (packs : (s : C) → fits s → counted s × (length (pack s) ≤ STATE_BYTES)) where
    installing_holds : (pe : PeView C) (p : PackedView) (r : Result (C × ℕ) PupError) → unpack p.bytes ≡ r
        → HasHistories step fits pack opened pe → IsPackedHistory step fits pack opened p
        → IfSome (installing step pack unpack pe p r) (λ a. HasHistories step fits pack opened a.pe)
    installing_holds pe p (Err error) is h k = tt
    installing_holds pe p (Ok x) is h k =
        installed_holds pe p x.0 h (history_unpacked step fits counted pack unpack opened p x.0 x.1 trip packs k is)

    element_holds : (pe : PeView C) (p : PackedView) (o : Option (ElementView C)) → HasHistories step fits pack opened pe
        → IsPackedHistory step fits pack opened p → IfSome (on_element step pack unpack pe p o) (λ a. HasHistories step fits pack opened a.pe)
    element_holds pe p (Some el) h k = tt
    element_holds pe p None h k = installing_holds pe p (unpack p.bytes) refl h k

    parcel_holds : (pe : PeView C) (parcel : Parcel) (look : Option ℕ) → HasHistories step fits pack opened pe
        → IsParcelHistory step fits pack opened parcel → IfSome (on_parcel step pack unpack pe parcel look) (λ a. HasHistories step fits pack opened a.pe)
    parcel_holds pe (Letter l) look h k = letter_holds pe l look (found l.to pe.room) refl h
    parcel_holds pe (Element p) look h k = element_holds pe p (found p.index pe.room) h k

    hand_holds : (pe : PeView C) (o : Option Item) → HasHistories step fits pack opened pe → IfSome o IsItemHistory
        → IfSome (acting_on step pack unpack pe o) (λ a. HasHistories step fits pack opened a.pe)
    hand_holds pe None h k = tt
    hand_holds pe (Some x) h k = parcel_holds pe x.parcel x.address h k

    pub acting_holds : (pe : PeView C) → HasHistories step fits pack opened pe → IfSome (acting step pack unpack pe) (λ a. HasHistories step fits pack opened a.pe)
    acting_holds pe h = hand_holds pe pe.hand h h.hand
