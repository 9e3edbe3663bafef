-- Where the elements may be, by what each PE knows; and that a letter which waits for one on a PE is not waited for in vain.
use Rattle.std.proofs.Common.{◌≡◌, ◌≢◌, ℕ, ◌+◌, ◌<◌, ◌≤◌, List, length, Option, Some, None, Bool, true, false, arith, refl, sym, ◌∙◌, ap, subst}
use Rattle.std.specs.Prelude.{Result, All, IfSome, slice_get, slice_index_or, nat_eq, nat_lt, nat_le, not, if◌then◌else◌}
use Rattle.std.specs.List.{filter}
use Rattle.std.specs.Option.{option_map, option_or}
use Rattle.std.proofs.lemmas.Bool.Decides.{nat_tests}
use Rattle.std.proofs.lemmas.List.Elements.{All-push, All-weaker, All-filter, filter_passes}
use Rattle.std.proofs.lemmas.Option.{same_Some}
use Rattle.sync_board.specs.Boards.{BoardState, place_in}
use Rattle.chares.specs.declared.carried.Carried.TheVariants.{Letter, Element}
use Rattle.chares.specs.Elements.{PackedView}
use Rattle.chares.specs.Letters.{LetterView, Done}
use Rattle.chares.specs.Steps.{Step}
use Rattle.pup_pack.specs.declared.error.PupError.{PupError}
use Rattle.pe_state.specs.Pes.{PeView, Parcel, Item, at_pe, is_for, hand_wants, front_wants, looked, looked_in, installed, noted, resumed, departed}
use Rattle.pe_state.specs.Rooms.{found}
use Rattle.rts_core.specs.declared.event.Event.{Event}
use Rattle.rts_core.specs.Events.{LocalView}
use Rattle.event_laws.proofs.LocalMoves.{hand_look}
use Rattle.overtaking_laws.specs.StampedRuns.{place_after}
use Rattle.overtaking_laws.proofs.RoundPlaces.{IsLater, place_stays, placed_in}
use Rattle.overtaking_laws.proofs.OwnTurns.{IsAct, IsInHand, EachOwnTurn}
use Rattle.overtaking_laws.proofs.SeenWords.{place_seen, places_seen, word_seen, seen_there}
use Rattle.overtaking_laws.proofs.Whereabouts.{Allows}

-- ---- where the elements may be

module _ {A : Type 0} (n pes : ℕ) (b : BoardState A) (known : ℕ → ℕ) where
  -- each round up to the one after which the element was resumed last is known on the PE where it then was
  abbrev pub IsSettled : ℕ → ℕ → Type 0
  IsSettled e r = (k : ℕ) → k ≤ r → k ≤ known (place_after n pes b e k)

  -- a PE where the element is not, and by whose words it is there, knows a later round than that
  abbrev pub IsApart : ℕ → ℕ → ℕ → Type 0
  IsApart e r q = place_after n pes b e (known q) ≡ q → r < known q

  abbrev pub Lives : ℕ → ℕ → ℕ → List Done → Type 0
  Lives p e r journal = IsSettled e r × ((q : ℕ) → q ≢ p → IsApart e r q)

  abbrev pub Travels : ℕ → ℕ → List Done → Type 0
  Travels e r journal = IsSettled e r × ((q : ℕ) → IsApart e r q)

  pub lives_on : {C : Type 0} (event : Event) (p : ℕ) (pe : PeView C) → Allows Lives Travels event p (known p) pe b
  lives_on event p pe =
      record {
        starts = λ e r journal h. (
          λ k le. h.0 k (omega (arith, le)),
          λ q other at. let later = h.1 q other at in omega (arith, later),
        );
        goes_on = λ e r journal h place le. (
          λ k within. settled e r h.0 place le k within (nat_le k r) refl,
          λ q other at. apart e r q (h.1 q other at) place other at (nat_eq (known q) (r + 1)) refl,
        );
        executes = λ r journal item l hand is h. h;
        leaves = λ e r journal h le. (h.0, λ q at. left e r h.1 le q at (nat_eq q p) refl);
        comes = λ item x acts hand is h. (h.0, λ q other. h.1 q);
      }
    where
      settled : (e r : ℕ) → IsSettled e r → place_in b (r + 1) e ≡ Some p → r + 1 ≤ known p → (k : ℕ) → k ≤ r + 1 → (c : Bool) → nat_le k r ≡ c
          → k ≤ known (place_after n pes b e k)
      settled e r h place le k within true t = let before : k ≤ r = grind (arith, nat_tests) in h k before
      settled e r h place le k within false t =
          let last : k ≡ r + 1 = grind (arith, nat_tests) in
          let here : place_after n pes b e k ≡ p = ap (place_after n pes b e) last ∙ placed_in n pes b e (r + 1) p place in
          let knows : r + 1 ≤ known (place_after n pes b e k) = subst (λ (v : ℕ). r + 1 ≤ known v) (sym here) le in
          omega (arith, last, knows)

      apart : (e r q : ℕ) → r < known q → place_in b (r + 1) e ≡ Some p → q ≢ p → place_after n pes b e (known q) ≡ q → (c : Bool) → nat_eq (known q) (r + 1) ≡ c
          → r + 1 < known q
      apart e r q later place other at true t =
          let same : known q ≡ r + 1 = grind (arith, nat_tests) in
          let here : place_after n pes b e (known q) ≡ p = ap (place_after n pes b e) same ∙ placed_in n pes b e (r + 1) p place in
          absurd (other (sym at ∙ here))
      apart e r q later place other at false t =
          let more : known q ≢ r + 1 = grind (arith, nat_tests) in
          grind arith

      left : (e r : ℕ) → ((q : ℕ) → q ≢ p → IsApart e r q) → r + 1 ≤ known p → (q : ℕ) → place_after n pes b e (known q) ≡ q → (c : Bool) → nat_eq q p ≡ c → r < known q
      left e r h le q at true t =
          let same : q ≡ p = grind (arith, nat_tests) in
          let knows : r + 1 ≤ known q = subst (λ (v : ℕ). r + 1 ≤ known v) (sym same) le in
          omega (arith, knows)
      left e r h le q at false t = let other : q ≢ p = grind (arith, nat_tests) in h q other at

  -- where a PE comes to know a later round
  module _ (p round : ℕ) (later : known p ≤ round) where
    abbrev pub knowing : ℕ → ℕ
    knowing q = if nat_eq q p then round else known q

    pub known_more : (q : ℕ) (c : Bool) → nat_eq q p ≡ c → known q ≤ (if c then round else known q)
    known_more q true is =
        let same : q ≡ p = grind (arith, nat_tests) in
        subst (λ (v : ℕ). known v ≤ round) (sym same) later
    known_more q false is = omega arith

    pub settled_more : (e r : ℕ) → IsSettled e r → (k : ℕ) → k ≤ r → k ≤ knowing (place_after n pes b e k)
    settled_more e r h k le =
        let before = h k le in
        let more = known_more (place_after n pes b e k) (nat_eq (place_after n pes b e k) p) refl in
        omega (arith, before, more)

    pub apart_more : (e r q : ℕ) → IsSettled e r → IsApart e r q → (c : Bool) → nat_eq q p ≡ c → place_after n pes b e (if c then round else known q) ≡ q
        → r < (if c then round else known q)
    apart_more e r q settled h false is at = h at
    apart_more e r q settled h true is at = by (nat_lt r round) refl
      where
        by : (c : Bool) → nat_lt r round ≡ c → r < round
        by true t = grind (arith, nat_tests)
        by false t =
            let same : q ≡ p = grind (arith, nat_tests) in
            let past : round ≤ r = grind (arith, nat_tests) in
            let knew : round ≤ known q = subst (λ (v : ℕ). round ≤ known v) at (settled round past) in
            let most : known q ≤ round = subst (λ (v : ℕ). known v ≤ round) (sym same) later in
            let last : known q ≡ round = omega (arith, knew, most) in
            let before : r < known q = h (ap (place_after n pes b e) last ∙ at) in
            omega (arith, before, last)

-- where more rounds are decided
module _ {A : Type 0} (n pes : ℕ) (b b' : BoardState A) (later : IsLater b b') (known : ℕ → ℕ) (decided : (p : ℕ) → known p ≤ length b.rounds) where
  pub settled_stays : (e r : ℕ) → IsSettled n pes b known e r → IsSettled n pes b' known e r
  settled_stays e r h k le =
      let knows = h k le in
      let most = decided (place_after n pes b e k) in
      subst (λ (v : ℕ). k ≤ known v) (sym (place_stays n pes b b' later e k (omega (arith, knows, most)))) knows

  pub apart_stays : (e r q : ℕ) → IsApart n pes b known e r q → IsApart n pes b' known e r q
  apart_stays e r q h at = h (sym (place_stays n pes b b' later e (known q) (decided q)) ∙ at)

-- ---- an element that was not resumed for a round yet

-- PE p0 waits for element e0, whose place after round r0 it is
module _ (p0 e0 r0 : ℕ) where
  abbrev pub Before : ℕ → ℕ → ℕ → List Done → Type 0
  Before p e r journal = (e ≡ e0 → r < r0) × (p ≡ p0 → e ≢ e0)

  abbrev pub StillBefore : ℕ → ℕ → List Done → Type 0
  StillBefore e r journal = e ≡ e0 → r < r0

  pub before_on : {C A : Type 0} (n pes : ℕ) (b : BoardState A) → place_after n pes b e0 r0 ≡ p0 → (event : Event) (p known : ℕ) (pe : PeView C)
      → ((item : Item) (x : PackedView) → IsAct event → pe.hand ≡ Some item → item.parcel ≡ Element x → p ≡ p0 → x.index ≢ e0) → Allows Before StillBefore event p known pe b
  before_on n pes b there event p known pe spared =
      record {
        starts = λ e r journal h. (λ same. let k = h.0 same in omega (arith, k), h.1);
        goes_on = λ e r journal h place le. (λ same. later e r (h.0 same) h.1 place same (nat_eq (r + 1) r0) refl, h.1);
        executes = λ r journal item l hand is h. h;
        leaves = λ e r journal h le. h.0;
        comes = λ item x acts hand is h. (h, spared item x acts hand is);
      }
    where
      later : (e r : ℕ) → r < r0 → (p ≡ p0 → e ≢ e0) → place_in b (r + 1) e ≡ Some p → e ≡ e0 → (c : Bool) → nat_eq (r + 1) r0 ≡ c → r + 1 < r0
      later e r before other place same true t =
          let last : r + 1 ≡ r0 = grind (arith, nat_tests) in
          let at : place_after n pes b e (r + 1) ≡ p = placed_in n pes b e (r + 1) p place in
          let at0 : place_after n pes b e0 r0 ≡ p = ap (λ (v : ℕ). place_after n pes b v r0) (sym same) ∙ (ap (place_after n pes b e) (sym last) ∙ at) in
          absurd (other (sym at0 ∙ there) same)
      later e r before other place same false t =
          let not_yet : r + 1 ≢ r0 = grind (arith, nat_tests) in
          grind arith

-- ---- letters that wait on a PE

module _ (W : LetterView → Type 0) (p : ℕ) where
  -- a letter in the hand that a look gave the very PE that it is on
  abbrev pub IsKeptHere : Parcel → Option ℕ → Type 0
  IsKeptHere (Letter l) None = Unit {0}
  IsKeptHere (Letter l) (Some a) = a ≡ p → W l
  IsKeptHere (Element x) o = Unit {0}

  abbrev pub KeptItem : Item → Type 0
  KeptItem x = IsKeptHere x.parcel x.address

  pub record Waits {C : Type 0} (pe : PeView C) : Type 0 where
    pub me : pe.me ≡ p
    pub hand : IfSome pe.hand KeptItem
    pub shelf : All W pe.shelf

-- what follows of each letter
module _ (W V : LetterView → Type 0) (p : ℕ) (gives : (l : LetterView) → W l → V l) where
  kept_gives : (parcel : Parcel) (o : Option ℕ) → IsKeptHere W p parcel o → IsKeptHere V p parcel o
  kept_gives (Letter l) None k = tt
  kept_gives (Letter l) (Some a) k = λ same. gives l (k same)
  kept_gives (Element x) o k = tt

  pub waits_give : {C : Type 0} (pe : PeView C) → Waits W p pe → Waits V p pe
  waits_give pe h = record { me = h.me; hand = hand_gives pe.hand h.hand; shelf = All-weaker W V gives pe.shelf h.shelf }
    where
      hand_gives : (o : Option Item) → IfSome o (KeptItem W p) → IfSome o (KeptItem V p)
      hand_gives None k = tt
      hand_gives (Some x) k = kept_gives x.parcel x.address k

-- a letter whose element does not come in this event
abbrev pub IsSpared : {C : Type 0} → Event → PeView C → LetterView → Type 0
IsSpared event pe l = (item : Item) (x : PackedView) → IsAct event → pe.hand ≡ Some item → item.parcel ≡ Element x → x.index ≢ l.to

module _ {C A : Type 0} (step : Step C) (pack : C → List ℕ) (unpack : List ℕ → Result (C × ℕ) PupError) (event : Event) (n pes p known : ℕ) (W : LetterView → Type 0)
    (d : LocalView C A) (h : Waits W p d.pe) (finds : (l : LetterView) → found l.to d.pe.room ≡ None → place_after n pes d.board l.to known ≡ p → W l) where
  abbrev pub Spared : LetterView → Type 0
  Spared l = W l × IsSpared event d.pe l

  -- an event that does not act on a hand lets no element come
  calm : (IsAct event → ⊥) → (pe : PeView C) → Waits W p pe → Waits Spared p pe
  calm never pe k = waits_give W Spared p (λ l w. (w, λ item x acts hand is. absurd (never acts))) pe k

  no_element : (x y : Parcel) (l : LetterView) (e : PackedView) → x ≡ Letter l → y ≡ Element e → x ≡ y → ⊥
  no_element x y l e a b same = cc

  -- nor does one where a letter is in the hand
  with_letter : (l : LetterView) (o : Option ℕ) → IsInHand d.pe (Letter l) o → (k : LetterView) → W k → Spared k
  with_letter l o x k w = (
    w,
    λ other e acts hand is.
        let same : x.item ≡ other = same_Some x.item other (sym x.hand ∙ hand) in
        absurd (no_element x.item.parcel other.parcel l e x.is is (ap (λ (v : Item). v.parcel) same)),
  )

  looked_in_waits : (e word : ℕ) (o : Option ℕ) → hand_wants d.pe ≡ o → option_or o (front_wants d.pe.outbox) ≡ Some e → word ≡ place_seen n pes d.board p known d.pe e
      → Waits W p (looked_in d.pe word o)
  looked_in_waits e word None wants is at = record { me = h.me; hand = h.hand; shelf = h.shelf }
  looked_in_waits e word (Some i) wants is at =
      let same : i ≡ e = cc in
      let f = hand_look d.pe d.pe.hand i wants in
      let l : LetterView = f.0 in
      let there : place_after n pes d.board l.to known ≡ word =
      sym (seen_there n pes d.board p known d.pe l.to f.2) ∙ (ap (place_seen n pes d.board p known d.pe) (f.3 ∙ same) ∙ sym at) in
      let kept : IfSome (option_map (at_pe word) d.pe.hand) (KeptItem W p) =
      subst (λ (v : Option Item). IfSome (option_map (at_pe word) v) (KeptItem W p)) (sym f.1) (λ (here : word ≡ p). finds l f.2 (there ∙ here)) in
      record { me = h.me; hand = kept; shelf = h.shelf }

  not_for : (x : PackedView) (l : LetterView) → not (is_for x.index l) ≡ true → x.index ≢ l.to
  not_for x l t = grind (arith, nat_tests)

  kept_letter : (l : LetterView) (q : ℕ) → IsInHand d.pe (Letter l) (Some q) → q ≡ p → W l
  kept_letter l q x =
      let it : IsKeptHere W p x.item.parcel x.item.address = subst (λ (v : Option Item). IfSome v (KeptItem W p)) x.hand h.hand in
      let this : IsKeptHere W p (Letter l) x.item.address = subst (λ (v : Parcel). IsKeptHere W p v x.item.address) x.is it in
      subst (IsKeptHere W p (Letter l)) x.at this

  -- an element that comes takes its letters from the shelf
  installs_waits : (x : PackedView) (o : Option ℕ) (chare : C) → IsInHand d.pe (Element x) o → Waits Spared p (installed d.pe x chare)
  installs_waits x o chare y =
      record { me = h.me; hand = tt; shelf = λ i l lt. (stay i l lt, spared (slice_index_or left i l) (others i l lt)) }
    where
      left : List LetterView
      left = filter (λ l. not (is_for x.index l)) d.pe.shelf

      stay : All W left
      stay = All-filter (λ (l : LetterView). not (is_for x.index l)) W d.pe.shelf h.shelf

      others : All (λ l. not (is_for x.index l) ≡ true) left
      others = filter_passes (λ (l : LetterView). not (is_for x.index l)) d.pe.shelf

      this : (i j : Parcel) (e : PackedView) → i ≡ Element x → j ≡ Element e → i ≡ j → x ≡ e
      this i j e a b same = cc

      spared : (l : LetterView) → not (is_for x.index l) ≡ true → IsSpared event d.pe l
      spared l t other e acts hand is =
          let same : y.item ≡ other = same_Some y.item other (sym y.hand ∙ hand) in
          subst (λ (v : PackedView). v.index ≢ l.to) (this y.item.parcel other.parcel e y.is is (ap (λ (v : Item). v.parcel) same)) (not_for x l t)

  shelf_spared : (l : LetterView) (o : Option ℕ) → IsInHand d.pe (Letter l) o → All Spared d.pe.shelf
  shelf_spared l o x = All-weaker W Spared (with_letter l o x) d.pe.shelf h.shelf

  pub event_waits : d.words ≡ places_seen n pes d.board p known d.pe → EachOwnTurn step pack unpack event p d (Waits Spared p)
  event_waits words =
      record {
        starts = λ e el never at. calm never (resumed step pack d.pe e 0) (record { me = h.me; hand = h.hand; shelf = h.shelf });
        goes_on = λ e round never frees x. calm never (resumed step pack d.pe e round) (record { me = h.me; hand = h.hand; shelf = h.shelf });
        departs = λ e round q never frees x. calm never (departed pack d.pe e q) (record { me = h.me; hand = h.hand; shelf = h.shelf });
        looks = λ e word never wants at.
            let there : slice_get (places_seen n pes d.board p known d.pe) e ≡ Some word = subst (λ (v : List ℕ). slice_get v e ≡ Some word) words at in
            calm never (looked d.pe word) (looked_in_waits e word (hand_wants d.pe) refl wants (word_seen n pes d.board p known d.pe e word there));
        executes = λ l o el acts x at. record { me = h.me; hand = tt; shelf = shelf_spared l o x };
        shelves = λ l q acts x here.
            let kept : Spared l = with_letter l (Some q) x l (kept_letter l q x (here ∙ h.me)) in
            record { me = h.me; hand = tt; shelf = All-push Spared d.pe.shelf l (shelf_spared l (Some q) x) kept };
        forwards = λ l q acts x other. record { me = h.me; hand = tt; shelf = shelf_spared l (Some q) x };
        installs = λ x o chare acts y. installs_waits x o chare y;
        reports = λ never. calm never (noted d.pe) (record { me = h.me; hand = h.hand; shelf = h.shelf });
      }
