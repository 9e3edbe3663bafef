-- What each step of one PE moves.
use Rattle.std.proofs.Common.{◌≡◌, ℕ, ◌+◌, List, [], ◌∷◌, ◌++◌, map, Option, Some, None, Bool, true, false, sum_by, arith, refl, sym, ◌∙◌, ap, subst}
use Rattle.std.specs.Prelude.{Result, Ok, Err, slice_get, slice_set, not, is_some, ◌==◌, if◌then◌else◌}
use Rattle.std.specs.List.{filter}
use Rattle.std.specs.Option.{option_map, option_or}
use Rattle.std.proofs.lemmas.List.Filters.{sum_by-filter_both}
use Rattle.std.proofs.lemmas.List.Sums.{sum_by-cons, sum_by-append, sum_by_push}
use Rattle.sync_board.specs.Boards.{BoardState}
use Rattle.chares.specs.declared.carried.Carried.TheVariants.{Letter, Element}
use Rattle.chares.specs.declared.entry.Entry.TheVariants.{Letter as OfLetter, Resumption}
use Rattle.chares.specs.declared.trace_entry.TraceEntry.{TraceEntry}
use Rattle.chares.specs.declared.trace_entry.TraceEntry.TheVariants as Trace
use Rattle.chares.specs.Elements.{ElementView, PackedView, ran, outcome_of, packed, unpacked}
use Rattle.chares.specs.Letters.{LetterView, Done, hopped}
use Rattle.chares.specs.Posting.{letters_of}
use Rattle.chares.specs.Steps.{Step}
use Rattle.pup_pack.specs.declared.error.PupError.{PupError}
use Rattle.pe_state.specs.Pes.{PeView, Parcel, Item, Acting, unaddressed, front_wants, wanted, hand_wants, hand_wants_in, absent, looked, looked_in, front_at, at_pe, letter_at, element_at, is_for, handled, handler_posts, resumed, resume_entries, departed, executed, on_letter, passing, shelving, forwarding, installed, installing, on_element, on_parcel, acting_on, acting}
use Rattle.pe_state.specs.Rooms.{found, joined, changed, without}
use Rattle.pe_state.specs.declared.acted.Acted.TheVariants.{Installed as IsInstalled}
use Rattle.rts_core.specs.Worlds.{WorldView}
use Rattle.rts_core.proofs.Moves.{numbered}
use Rattle.rts_core.proofs.Weights.{sum_by-map}
use Rattle.rts_core.proofs.WorldSteps.{get_set_same}
use Rattle.event_laws.proofs.RoomSums.{room_changed, room_joined, room_without}
use Rattle.event_laws.proofs.Moves.{Change, on_pe, with_pe, waits_at, IsQuiet, ran_from}
use Rattle.event_laws.proofs.Moves.Move.{Still, Runs, Looks, Addresses, Forwards, Installs, Departs}
use Rattle.event_laws.proofs.PeMoves.{posts_gain, posts_are, room_empty, nothing_waits, none_waits}
use Rattle.event_laws.proofs.Sites.{Site, LetterWeight, ElementWeight, no_elements, look_site, item_out, held_at, hand_at, letter_in, entry_at}
use Rattle.event_laws.proofs.Sites.Site.{Fresh, Bound, Chasing, Waiting, Room}

-- an item is its parcel and its address
pub item_is : (x : Item) (y : Parcel) (o : Option ℕ) → x.parcel ≡ y → x.address ≡ o → x ≡ record { parcel = y; address = o }
item_is x y o i a =
    subst (λ (v : Parcel). x ≡ record { parcel = v; address = o }) i
    (subst (λ (v : Option ℕ). x ≡ record { parcel = x.parcel; address = v }) a refl)

-- ---- what a look is for

-- a letter in a hand that wants a look has none yet, and its element is not in the room
pub hand_look : {C : Type 0} (pe : PeView C) (hand : Option Item) (e : ℕ) → hand_wants_in pe hand ≡ Some e
    → (l : LetterView) × (hand ≡ Some (record { parcel = Letter l; address = None })) × (found l.to pe.room ≡ None) × (l.to ≡ e)
hand_look pe None e h = cc
hand_look {C} pe (Some x) e h = by x.parcel x.address refl refl h
  where
    miss : (l : LetterView) (o : Option (ElementView C)) → found l.to pe.room ≡ o → (if is_some o then None else Some l.to) ≡ Some e → (o ≡ None) × (l.to ≡ e)
    miss l None f s = (refl, cc)
    miss l (Some el) f s = cc

    by : (y : Parcel) (o : Option ℕ) → x.parcel ≡ y → x.address ≡ o → absent pe (unaddressed y o) ≡ Some e
        → (l : LetterView) × (Some x ≡ Some (record { parcel = Letter l; address = None })) × (found l.to pe.room ≡ None) × (l.to ≡ e)
    by (Element p) o i a s = cc
    by (Letter l) (Some q) i a s = cc
    by (Letter l) None i a s =
        let m = miss l (found l.to pe.room) refl s in
        let is : x ≡ record { parcel = Letter l; address = None } = item_is x (Letter l) None i a in
        (l, ap (λ (v : Item). Some v) is, m.0, m.1)

-- a letter at the front of an outbox that wants a look has no address
pub front_look : (outbox : List Item) (e : ℕ) → front_wants outbox ≡ Some e
    → (l : LetterView) × (rest : List Item) × (outbox ≡ record { parcel = Letter l; address = None } ∷ rest) × (l.to ≡ e)
front_look [] e h = cc
front_look (x ∷ xs) e h = by x.parcel x.address refl refl h
  where
    by : (y : Parcel) (o : Option ℕ) → x.parcel ≡ y → x.address ≡ o → unaddressed y o ≡ Some e
        → (l : LetterView) × (rest : List Item) × (x ∷ xs ≡ record { parcel = Letter l; address = None } ∷ rest) × (l.to ≡ e)
    by (Element p) o i a s = cc
    by (Letter l) (Some q) i a s = cc
    by (Letter l) None i a s =
        let is : x ≡ record { parcel = Letter l; address = None } = item_is x (Letter l) None i a in
        let to : l.to ≡ e = cc in
        (l, xs, ap (λ (v : Item). v ∷ xs) is, to)

module _ {C A : Type 0} (w : WorldView C A) (p : ℕ) (pe : PeView C) (at : slice_get w.pes p ≡ Some pe) where
  -- the world after a step to another PE, location words and board
  abbrev pub next : PeView C → List ℕ → BoardState A → WorldView C A
  next pe' words board = record { pes = slice_set w.pes p pe'; queues = w.queues; words = words; board = board }

  abbrev pub After : PeView C → List TraceEntry → Type 0
  After pe' rs = Change w (next pe' w.words w.board) rs

  -- Look
  looked_hand : (q e : ℕ) → hand_wants pe ≡ Some e → slice_get w.words e ≡ Some q → After (looked_in pe q (Some e)) []
  looked_hand q e wants word =
      let f = hand_look pe pe.hand e wants in
      let l : LetterView = f.0 in
      let is : pe.hand ≡ Some (record { parcel = Letter l; address = None }) = f.1 in
      let kept : PeView C = record { me = pe.me; n = pe.n; room = pe.room; hand = None; shelf = pe.shelf; outbox = pe.outbox; notes = pe.notes; count = pe.count; longest = pe.longest; kept = None } in
      on_pe w p pe (looked_in pe q (Some e)) kept w.words w.board [] (Looks p q l) at
      (λ g k. let a : hand_at g k p pe.hand ≡ letter_in g k (Bound p) l = ap (hand_at g k p) is in omega (arith, a))
      (λ g k. let a : hand_at g k p (option_map (at_pe q) pe.hand) ≡ letter_in g k (look_site p (Some q)) l = ap
      (λ (v : Option Item). hand_at g k p (option_map (at_pe q) v)) is in omega (arith, a))
      refl
      (refl, subst (λ (v : ℕ). slice_get w.words v ≡ Some q) (sym f.3) word, room_empty w p pe at l.to f.2)

  looked_front : (q e : ℕ) → front_wants pe.outbox ≡ Some e → slice_get w.words e ≡ Some q → After (looked_in pe q None) []
  looked_front q e wants word =
      let f = front_look pe.outbox e wants in
      let l : LetterView = f.0 in
      let rest : List Item = f.1 in
      let is : pe.outbox ≡ record { parcel = Letter l; address = None } ∷ rest = f.2 in
      let kept : PeView C = record { me = pe.me; n = pe.n; room = pe.room; hand = pe.hand; shelf = pe.shelf; outbox = rest; notes = pe.notes; count = pe.count; longest = pe.longest; kept = None } in
      on_pe w p pe (looked_in pe q None) kept w.words w.board [] (Addresses q l) at
      (λ g k.
      let a : sum_by (item_out g k) pe.outbox ≡ letter_in g k Fresh l + sum_by (item_out g k) rest = ap (sum_by (item_out g k)) is
      ∙ sum_by-cons (item_out g k) (record { parcel = Letter l; address = None }) rest in
      omega (arith, a))
      (λ g k.
      let a : sum_by (item_out g k) (front_at q pe.outbox) ≡ letter_in g k (Bound q) l + sum_by (item_out g k) rest = ap
      (λ (v : List Item). sum_by (item_out g k) (front_at q v)) is ∙ sum_by-cons (item_out g k) (record { parcel = Letter l; address = Some q }) rest in
      omega (arith, a))
      refl
      (refl, subst (λ (v : ℕ). slice_get w.words v ≡ Some q) (sym f.3) word)

  pub looked_moves : (q e : ℕ) → wanted pe ≡ Some e → slice_get w.words e ≡ Some q → After (looked pe q) []
  looked_moves q e wants word = by (hand_wants pe) refl wants
    where
      by : (o : Option ℕ) → hand_wants pe ≡ o → option_or o (front_wants pe.outbox) ≡ Some e → After (looked_in pe q o) []
      by (Some d) h s =
          let same : d ≡ e = cc in
          looked_hand q d h (subst (λ (v : ℕ). slice_get w.words v ≡ Some q) (sym same) word)
      by None h s = looked_front q e s word

  module _ (step : Step C) (pack : C → List ℕ) where
    -- a handler
    pub handled_moves : (e : ℕ) (done : Done) (hand : Option Item) (el : ElementView C) (first : TraceEntry)
        (from : Option (Site × LetterView)) → IsQuiet first → found e pe.room ≡ Some el
        → ((g : LetterWeight) (k : ElementWeight) → hand_at g k p pe.hand ≡ ran_from g from + hand_at g k p hand)
        → After (handled step pack pe e done hand) (first ∷ handler_posts step pack pe e done)
    handled_moves e done hand el first from quiet h hands =
        let ss : List (ℕ × List ℕ) = (outcome_of step pack el pe.n done).sends in
        let kept : PeView C = record { me = pe.me; n = pe.n; room = pe.room; hand = hand; shelf = pe.shelf; outbox = pe.outbox; notes = pe.notes; count = pe.count; longest = pe.longest; kept = None } in
        on_pe w p pe (handled step pack pe e done hand) kept w.words w.board (first ∷ handler_posts step pack pe e done) (Runs from (numbered pe.me pe.count ss)) at
        (λ g k. let a = hands g k in omega (arith, a))
        (λ g k.
        let a : sum_by (item_out g k) (pe.outbox ++ letters_of pe.me pe.count ss) ≡ sum_by (item_out g k) pe.outbox + sum_by (item_out g k)
        (letters_of pe.me pe.count ss) = sum_by-append (item_out g k) pe.outbox (letters_of pe.me pe.count ss) in
        let b : sum_by (item_out g k) (letters_of pe.me pe.count ss) ≡ sum_by (letter_in g k Fresh) (numbered pe.me pe.count ss) = posts_gain g k pe.me pe.count ss in
        let c : sum_by (λ (x : ℕ × ElementView C). entry_at g k p x) (changed e (ran step pack el pe.n pe.me done) pe.room) ≡ sum_by
        (λ (x : ℕ × ElementView C). entry_at g k p x) pe.room = room_changed (λ (x : ℕ × ElementView C). entry_at g k p x) pe.room e el
        (ran step pack el pe.n pe.me done) h (λ key. refl) in
        rw h (omega (arith, a, b, c)))
        refl
        (first, quiet, rw h (ap (λ (v : List TraceEntry). first ∷ v) (posts_are pe.me pe.count ss)))

    pub resumed_moves : (e round : ℕ) (el : ElementView C) → found e pe.room ≡ Some el → After (resumed step pack pe e round) (resume_entries step pack pe e round)
    resumed_moves e round el h = handled_moves e (Resumption round) pe.hand el (Trace.Resumed e round) None tt h (λ g k. omega arith)

    -- Depart
    pub departed_moves : (e q : ℕ) (el : ElementView C) → found e pe.room ≡ Some el → Change w (next (departed pack pe e q) (slice_set w.words e q) w.board) (Trace.Departed e ∷ [])
    departed_moves e q el h =
        let kept : PeView C = record {
          me = pe.me;
          n = pe.n;
          room = without e pe.room;
          hand = pe.hand;
          shelf = pe.shelf;
          outbox = pe.outbox;
          notes = pe.notes;
          count = pe.count;
          longest = pe.longest;
          kept = None;
        } in
        on_pe w p pe (departed pack pe e q) kept (slice_set w.words e q) w.board (Trace.Departed e ∷ []) (Departs p e el.index q) at
        (λ g k.
        let a : sum_by (λ (x : ℕ × ElementView C). entry_at g k p x) pe.room ≡ entry_at g k p (e, el) + sum_by
        (λ (x : ℕ × ElementView C). entry_at g k p x) (without e pe.room) = room_without (λ (x : ℕ × ElementView C). entry_at g k p x) pe.room e el h in
        omega (arith, a))
        (λ g k.
        let a : sum_by (item_out g k) (pe.outbox ++ element_at q (packed pack el) ∷ []) ≡ sum_by (item_out g k) pe.outbox + k (Bound q)
        el.index = sum_by_push (item_out g k) pe.outbox (element_at q (packed pack el)) in
        rw h (omega (arith, a)))
        refl
        refl

    -- Act
    module _ (me : pe.me ≡ p) where
      shelved_moves : (x : Item) (l : LetterView) (q : ℕ) → pe.hand ≡ Some x → x.parcel ≡ Letter l → x.address ≡ Some q → (q == pe.me) ≡ true
          → After (shelving pe l).pe (shelving pe l).trace
      shelved_moves x l q h i a t =
          let here : (q == p) ≡ true = subst (λ (v : ℕ). (q == v) ≡ true) me t in
          let is : x ≡ record { parcel = Letter l; address = Some q } = item_is x (Letter l) (Some q) i a in
          on_pe w p pe (shelving pe l).pe pe w.words w.board (shelving pe l).trace Still at
          (λ g k. omega arith)
          (λ g k.
          let c : hand_at g k p pe.hand ≡ letter_in g k (look_site p (Some q)) l = ap (hand_at g k p) h ∙ ap (λ (v : Item). hand_at g k p (Some v)) is in
          let d : letter_in g k (look_site p (Some q)) l ≡ letter_in g k (Waiting p) l = ap (λ (b : Bool). letter_in g k (if b then Waiting p else Chasing q) l) here in
          let e : sum_by (letter_in g k (Waiting p)) (pe.shelf ++ l ∷ []) ≡ sum_by (letter_in g k (Waiting p)) pe.shelf + letter_in g k
          (Waiting p) l = sum_by_push (letter_in g k (Waiting p)) pe.shelf l in
          omega (arith, c, d, e))
          refl
          (tt, tt)

      forwarded_moves : (x : Item) (l : LetterView) (q : ℕ) → pe.hand ≡ Some x → x.parcel ≡ Letter l → x.address ≡ Some q → (q == pe.me) ≡ false
          → After (forwarding pe l q).pe (forwarding pe l q).trace
      forwarded_moves x l q h i a t =
          let away : (q == p) ≡ false = subst (λ (v : ℕ). (q == v) ≡ false) me t in
          let is : x ≡ record { parcel = Letter l; address = Some q } = item_is x (Letter l) (Some q) i a in
          let kept : PeView C = record {
            me = pe.me;
            n = pe.n;
            room = pe.room;
            hand = None;
            shelf = pe.shelf;
            outbox = pe.outbox;
            notes = pe.notes;
            count = pe.count;
            longest = pe.longest;
            kept = None;
          } in
          on_pe w p pe (forwarding pe l q).pe kept w.words w.board (forwarding pe l q).trace (Forwards q l) at
          (λ g k.
          let c : hand_at g k p pe.hand ≡ letter_in g k (look_site p (Some q)) l = ap (hand_at g k p) h ∙ ap (λ (v : Item). hand_at g k p (Some v)) is in
          let d : letter_in g k (look_site p (Some q)) l ≡ letter_in g k (Chasing q) l = ap (λ (b : Bool). letter_in g k (if b then Waiting p else Chasing q) l) away in
          omega (arith, c, d))
          (λ g k.
          let e : sum_by (item_out g k) (pe.outbox ++ letter_at q (hopped l) ∷ []) ≡ sum_by (item_out g k) pe.outbox + letter_in g k
          (Bound q) l = sum_by_push (item_out g k) pe.outbox (letter_at q (hopped l)) in
          omega (arith, e))
          refl
          refl

      passed_moves : (x : Item) (l : LetterView) (look : Option ℕ) (a : Acting C) → pe.hand ≡ Some x → x.parcel ≡ Letter l → x.address ≡ look
          → passing pe l look ≡ Some a → After a.pe a.trace
      passed_moves x l None a h i o s = cc
      passed_moves x l (Some q) a h i o s =
          let same : (if q == pe.me then shelving pe l else forwarding pe l q) ≡ a = cc in
          subst (λ (v : Acting C). After v.pe v.trace) same (by (q == pe.me) refl)
        where
          by : (b : Bool) → (q == pe.me) ≡ b → After (if b then shelving pe l else forwarding pe l q).pe (if b then shelving pe l else forwarding pe l q).trace
          by true t = shelved_moves x l q h i o t
          by false t = forwarded_moves x l q h i o t

      executed_moves : (x : Item) (l : LetterView) (el : ElementView C) → pe.hand ≡ Some x → x.parcel ≡ Letter l → found l.to pe.room ≡ Some el
          → After (executed step pack pe l).pe (executed step pack pe l).trace
      executed_moves x l el h i f =
          handled_moves l.to (OfLetter l) None el (Trace.Executed l.id l.to) (Some (look_site p x.address, l)) tt f
          (λ g k.
          let c : hand_at g k p pe.hand ≡ held_at g k p (Letter l) x.address = ap (hand_at g k p) h ∙ ap (λ (v : Parcel). held_at g k p v x.address) i in
          omega (arith, c))

      letter_moves : (x : Item) (l : LetterView) (o : Option (ElementView C)) (a : Acting C) → pe.hand ≡ Some x → x.parcel ≡ Letter l
          → found l.to pe.room ≡ o → on_letter step pack pe l x.address o ≡ Some a → After a.pe a.trace
      letter_moves x l None a h i f s = passed_moves x l x.address a h i refl s
      letter_moves x l (Some el) a h i f s = by el.progress.started s
        where
          by : (b : Bool) → (if b then Some (executed step pack pe l) else None) ≡ Some a → After a.pe a.trace
          by true s = let same : executed step pack pe l ≡ a = cc in subst (λ (v : Acting C). After v.pe v.trace) same (executed_moves x l el h i f)
          by false s = cc

      installed_moves : (x : Item) (pk : PackedView) (chare : C) → pe.hand ≡ Some x → x.parcel ≡ Element pk → found pk.index pe.room ≡ None
          → After (installed pe pk chare) (Trace.Installed pk.index ∷ [])
      installed_moves x pk chare h i f =
          let mine : List LetterView = filter (is_for pk.index) pe.shelf in
          let others : List LetterView = filter (λ l. not (is_for pk.index l)) pe.shelf in
          let kept : PeView C = record { me = pe.me; n = pe.n; room = pe.room; hand = None; shelf = others; outbox = pe.outbox; notes = pe.notes; count = pe.count; longest = pe.longest; kept = None } in
          on_pe w p pe (installed pe pk chare) kept w.words w.board (Trace.Installed pk.index ∷ []) (Installs p pk.index mine) at
          (λ g k.
          let a : hand_at g k p pe.hand ≡ k (Bound p) pk.index = ap (hand_at g k p) h ∙ ap (λ (v : Parcel). held_at g k p v x.address) i in
          let b : sum_by (letter_in g k (Waiting p)) mine + sum_by (letter_in g k (Waiting p)) others ≡ sum_by (letter_in g k (Waiting p))
          pe.shelf = sum_by-filter_both (is_for pk.index) (λ l. not (is_for pk.index l)) (λ l. refl) (letter_in g k (Waiting p)) pe.shelf in
          omega (arith, a, b))
          (λ g k.
          let c : sum_by (item_out g k) (pe.outbox ++ map (letter_at pe.me) mine) ≡ sum_by (item_out g k) pe.outbox + sum_by (item_out g k)
          (map (letter_at pe.me) mine) = sum_by-append (item_out g k) pe.outbox (map (letter_at pe.me) mine) in
          let d : sum_by (item_out g k) (map (letter_at pe.me) mine) ≡ sum_by (letter_in g k (Bound pe.me)) mine = sum_by-map (item_out g k) (letter_at pe.me) mine in
          let m : sum_by (letter_in g k (Bound pe.me)) mine ≡ sum_by (letter_in g k (Bound p)) mine = ap (λ (v : ℕ). sum_by (letter_in g k (Bound v)) mine) me in
          let r : sum_by (λ (y : ℕ × ElementView C). entry_at g k p y) (joined pk.index (unpacked pk chare) pe.room) ≡ sum_by
          (λ (y : ℕ × ElementView C). entry_at g k p y) pe.room + k (Room p pk.index) pk.index = room_joined
          (λ (y : ℕ × ElementView C). entry_at g k p y) pe.room pk.index (unpacked pk chare) f in
          omega (arith, c, d, m, r))
          refl (
            refl,
            nothing_waits (with_pe w p kept) p pk.index (λ v is.
                let there : slice_get (slice_set w.pes p kept) p ≡ Some kept = get_set_same w.pes p pe kept at in
                let same : kept ≡ v = cc in
                subst (λ (u : PeView C). (u.hand ≡ None) × (sum_by (letter_in (waits_at p pk.index) no_elements (Waiting p)) u.shelf ≡ 0))
                same (refl, none_waits p pk.index pe.shelf)),
          )

      module _ (unpack : List ℕ → Result (C × ℕ) PupError) where
        installing_moves : (x : Item) (pk : PackedView) (u : Result (C × ℕ) PupError) (a : Acting C) → pe.hand ≡ Some x → x.parcel ≡ Element pk
            → found pk.index pe.room ≡ None → installing step pack unpack pe pk u ≡ Some a → After a.pe a.trace
        installing_moves x pk (Err z) a h i f s = cc
        installing_moves x pk (Ok y) a h i f s =
            let same : record { acted = IsInstalled; pe = installed pe pk y.0; trace = Trace.Installed pk.index ∷ [] } ≡ a = cc in
            subst (λ (v : Acting C). After v.pe v.trace) same (installed_moves x pk y.0 h i f)

        element_moves : (x : Item) (pk : PackedView) (o : Option (ElementView C)) (a : Acting C) → pe.hand ≡ Some x → x.parcel ≡ Element pk
            → found pk.index pe.room ≡ o → on_element step pack unpack pe pk o ≡ Some a → After a.pe a.trace
        element_moves x pk (Some el) a h i f s = cc
        element_moves x pk None a h i f s = installing_moves x pk (unpack pk.bytes) a h i f s

        parcel_moves : (x : Item) (parcel : Parcel) (a : Acting C) → pe.hand ≡ Some x → x.parcel ≡ parcel
            → on_parcel step pack unpack pe parcel x.address ≡ Some a → After a.pe a.trace
        parcel_moves x (Letter l) a h i s = letter_moves x l (found l.to pe.room) a h i refl s
        parcel_moves x (Element pk) a h i s = element_moves x pk (found pk.index pe.room) a h i refl s

        acted_on_moves : (o : Option Item) (a : Acting C) → pe.hand ≡ o → acting_on step pack unpack pe o ≡ Some a → After a.pe a.trace
        acted_on_moves None a h s = cc
        acted_on_moves (Some x) a h s = parcel_moves x x.parcel a h refl s

        pub acting_moves : (a : Acting C) → acting step pack unpack pe ≡ Some a → After a.pe a.trace
        acting_moves a s = acted_on_moves pe.hand a refl s
