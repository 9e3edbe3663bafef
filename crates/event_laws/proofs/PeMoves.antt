-- What each call of a PE moves.
use Rattle.std.proofs.Common.{◌≡◌, ◌≢◌, ℕ, ◌+◌, List, [], ◌∷◌, map, Option, Some, None, Bool, true, false, sum_by, arith, refl, sym, ◌∙◌, ap, subst}
use Rattle.std.specs.Prelude.{slice_get, nat_eq, not, cond, ◌==◌, if◌then◌else◌}
use Rattle.std.specs.List.{filter}
use Rattle.std.proofs.lemmas.Bool.Decides.{nat_tests}
use Rattle.std.proofs.lemmas.List.Sums.{sum_by-cons}
use Rattle.chares.specs.declared.carried.Carried.TheVariants.{Letter, Element}
use Rattle.chares.specs.declared.trace_entry.TraceEntry.{TraceEntry}
use Rattle.chares.specs.declared.trace_entry.TraceEntry.TheVariants as Trace
use Rattle.chares.specs.Elements.{ElementView}
use Rattle.chares.specs.Letters.{LetterView}
use Rattle.chares.specs.Posting.{letter_to, letters_of, posts_of}
use Rattle.pe_state.specs.Pes.{PeView, Parcel, Item, is_for}
use Rattle.pe_state.specs.Rooms.{found}
use Rattle.rts_core.specs.Worlds.{WorldView}
use Rattle.rts_core.proofs.Moves.{numbered}
use Rattle.rts_core.proofs.Weights.{sum_by-same}
use Rattle.event_laws.proofs.RoomSums.{room_absent}
use Rattle.event_laws.proofs.Moves.{in_room, waits_at, post_of}
use Rattle.event_laws.proofs.Sites.{LetterWeight, ElementWeight, no_letters, no_elements, item_out, held_at, hand_at, letter_in, entry_at, pe_at, queue_at, world_at, sum_from-none}
use Rattle.event_laws.proofs.Sites.Site.{Fresh, Chasing, Waiting, Room}

-- ---- letters that are posted

pub posts_gain : (g : LetterWeight) (k : ElementWeight) (me count : ℕ) (ss : List (ℕ × List ℕ))
    → sum_by (item_out g k) (letters_of me count ss) ≡ sum_by (letter_in g k Fresh) (numbered me count ss)
posts_gain g k me count [] = refl
posts_gain g k me count (s ∷ ss) =
    let item : Item = record { parcel = Letter (letter_to me count s.0 s.1); address = None } in
    let a : sum_by (item_out g k) (item ∷ letters_of me (count + 1) ss) ≡ item_out g k item + sum_by (item_out g k)
    (letters_of me (count + 1) ss) = sum_by-cons (item_out g k) item (letters_of me (count + 1) ss) in
    let b : sum_by (letter_in g k Fresh) (letter_to me count s.0 s.1 ∷ numbered me (count + 1) ss) ≡ letter_in g k Fresh
    (letter_to me count s.0 s.1) + sum_by (letter_in g k Fresh) (numbered me (count + 1) ss) = sum_by-cons (letter_in g k Fresh)
    (letter_to me count s.0 s.1) (numbered me (count + 1) ss) in
    let ih = posts_gain g k me (count + 1) ss in
    omega (arith, a, b, ih)

pub posts_are : (me count : ℕ) (ss : List (ℕ × List ℕ)) → posts_of me count ss ≡ map post_of (numbered me count ss)
posts_are me count [] = refl
posts_are me count (s ∷ ss) = ap (λ (v : List TraceEntry). Trace.Posted (me, count) s.0 ∷ v) (posts_are me (count + 1) ss)

-- ---- what is in no room, and what waits nowhere

entry_in_room : {C : Type 0} (p e : ℕ) (x : ℕ × ElementView C) → entry_at no_letters (in_room p e) p x ≡ (if x.0 == e then 1 else 0)
entry_in_room p e x = grind (arith, nat_tests)

other_room : (p q e key i : ℕ) → q ≢ p → in_room p e (Room q key) i ≡ 0
other_room p q e key i ne = grind (arith, nat_tests)

other_waits : (p q e to : ℕ) (id : ℕ × ℕ) → q ≢ p → waits_at p e (Waiting q) id to ≡ 0
other_waits p q e to id ne = grind (arith, nat_tests)

here_waits : (p e : ℕ) (l : LetterView) → is_for e l ≡ false → letter_in (waits_at p e) no_elements (Waiting p) l ≡ 0
here_waits p e l f = grind (arith, nat_tests)

sum_none : {X : Type 0} (f : X → ℕ) (xs : List X) → ((x : X) → f x ≡ 0) → sum_by f xs ≡ 0
sum_none f [] h = refl
sum_none f (x ∷ xs) h =
    let a : sum_by f (x ∷ xs) ≡ f x + sum_by f xs = sum_by-cons f x xs in
    let b : f x ≡ 0 = h x in
    omega (arith, a, b, sum_none f xs h)

module _ {C A : Type 0} (w : WorldView C A) (p : ℕ) (pe : PeView C) (at : slice_get w.pes p ≡ Some pe) (e : ℕ) (none : found e pe.room ≡ None) where
  rooms_item : (o : Option ℕ) (x : Parcel) → item_out no_letters (in_room p e) (record { parcel = x; address = o }) ≡ 0
  rooms_item None (Letter l) = refl
  rooms_item None (Element x) = refl
  rooms_item (Some a) (Letter l) = refl
  rooms_item (Some a) (Element x) = refl

  rooms_held : (q : ℕ) (x : Parcel) (look : Option ℕ) → held_at no_letters (in_room p e) q x look ≡ 0
  rooms_held q (Letter l) look = refl
  rooms_held q (Element x) look = refl

  rooms_hand : (q : ℕ) (hand : Option Item) → hand_at no_letters (in_room p e) q hand ≡ 0
  rooms_hand q None = refl
  rooms_hand q (Some x) = rooms_held q x.parcel x.address

  rooms_pe : (q : ℕ) (x : PeView C) (b : Bool) → nat_eq q p ≡ b → slice_get w.pes q ≡ Some x → pe_at no_letters (in_room p e) q x ≡ 0
  rooms_pe q x b t is =
      let h = rooms_hand q x.hand in
      let o = sum_none (item_out no_letters (in_room p e)) x.outbox (λ y. rooms_item y.address y.parcel) in
      let s = sum_none (letter_in no_letters (in_room p e) (Waiting q)) x.shelf (λ l. refl) in
      let r = by b t in
      omega (arith, h, o, s, r)
    where
      by : (c : Bool) → nat_eq q p ≡ c → sum_by (λ (y : ℕ × ElementView C). entry_at no_letters (in_room p e) q y) x.room ≡ 0
      by true t =
          let same : p ≡ q = grind (arith, nat_tests) in
          let there : slice_get w.pes q ≡ Some pe = subst (λ (v : ℕ). slice_get w.pes v ≡ Some pe) same at in
          let this : pe ≡ x = cc in
          let absent : found e x.room ≡ None = subst (λ (v : PeView C). found e v.room ≡ None) this none in
          let a = sum_by-same (λ (y : ℕ × ElementView C). entry_at no_letters (in_room p e) q y)
          (λ (y : ℕ × ElementView C). if y.0 == e then 1 else 0)
          (λ y. subst (λ (v : ℕ). entry_at no_letters (in_room p e) v y ≡ (if y.0 == e then 1 else 0)) same (entry_in_room p e y)) x.room in
          a ∙ room_absent x.room e absent
      by false t = sum_none (λ (y : ℕ × ElementView C). entry_at no_letters (in_room p e) q y) x.room
          (λ y. other_room p q e y.0 y.1.index (let ne : q ≢ p = grind (arith, nat_tests) in ne))

  rooms_queue : (q : ℕ) (queue : List Parcel) → queue_at no_letters (in_room p e) q queue ≡ 0
  rooms_queue q queue = sum_none (λ x. item_out no_letters (in_room p e) (record { parcel = x; address = Some q })) queue (rooms_item (Some q))

  -- an element that is not found in the room of a PE is not there
  pub room_empty : world_at no_letters (in_room p e) w ≡ 0
  room_empty =
      let a = sum_from-none (λ q (x : PeView C). pe_at no_letters (in_room p e) q x) w.pes (λ q x. rooms_pe q x (nat_eq q p) refl) in
      let b = sum_from-none (queue_at no_letters (in_room p e)) w.queues (λ q queue is. rooms_queue q queue) in
      omega (arith, a, b)

module _ {C A : Type 0} (w : WorldView C A) (p : ℕ) (e : ℕ)
    (here : (pe : PeView C) → slice_get w.pes p ≡ Some pe → (pe.hand ≡ None) × (sum_by (letter_in (waits_at p e) no_elements (Waiting p)) pe.shelf ≡ 0)) where
  waits_item : (o : Option ℕ) (x : Parcel) → item_out (waits_at p e) no_elements (record { parcel = x; address = o }) ≡ 0
  waits_item None (Letter l) = refl
  waits_item None (Element x) = refl
  waits_item (Some a) (Letter l) = refl
  waits_item (Some a) (Element x) = refl

  waits_held : (q : ℕ) (x : Parcel) (look : Option ℕ) → q ≢ p → held_at (waits_at p e) no_elements q x look ≡ 0
  waits_held q (Element x) look ne = refl
  waits_held q (Letter l) None ne = refl
  waits_held q (Letter l) (Some r) ne = by (r == q)
    where
      by : (b : Bool) → letter_in (waits_at p e) no_elements (if b then Waiting q else Chasing r) l ≡ 0
      by true = other_waits p q e l.to l.id ne
      by false = refl

  waits_hand : (q : ℕ) (hand : Option Item) → q ≢ p → hand_at (waits_at p e) no_elements q hand ≡ 0
  waits_hand q None ne = refl
  waits_hand q (Some x) ne = waits_held q x.parcel x.address ne

  waits_pe : (q : ℕ) (x : PeView C) (b : Bool) → nat_eq q p ≡ b → slice_get w.pes q ≡ Some x → pe_at (waits_at p e) no_elements q x ≡ 0
  waits_pe q x b t is =
      let o = sum_none (item_out (waits_at p e) no_elements) x.outbox (λ y. waits_item y.address y.parcel) in
      let r = sum_none (λ (y : ℕ × ElementView C). entry_at (waits_at p e) no_elements q y) x.room (λ y. refl) in
      let h = by b t in
      omega (arith, h.0, h.1, o, r)
    where
      by : (c : Bool) → nat_eq q p ≡ c → (hand_at (waits_at p e) no_elements q x.hand ≡ 0) × (sum_by (letter_in (waits_at p e) no_elements (Waiting q)) x.shelf ≡ 0)
      by true t =
          let same : q ≡ p = grind (arith, nat_tests) in
          let k = here x (subst (λ (v : ℕ). slice_get w.pes v ≡ Some x) same is) in
          (ap (hand_at (waits_at p e) no_elements q) k.0, subst (λ (v : ℕ). sum_by (letter_in (waits_at p e) no_elements (Waiting v)) x.shelf ≡ 0) (sym same) k.1)
      by false t =
          let ne : q ≢ p = grind (arith, nat_tests) in
          (waits_hand q x.hand ne, sum_none (letter_in (waits_at p e) no_elements (Waiting q)) x.shelf (λ l. other_waits p q e l.to l.id ne))

  pub nothing_waits : world_at (waits_at p e) no_elements w ≡ 0
  nothing_waits =
      let a = sum_from-none (λ q (x : PeView C). pe_at (waits_at p e) no_elements q x) w.pes (λ q x. waits_pe q x (nat_eq q p) refl) in
      let b = sum_from-none (queue_at (waits_at p e) no_elements) w.queues
      (λ q queue is. sum_none (λ x. item_out (waits_at p e) no_elements (record { parcel = x; address = Some q })) queue (waits_item (Some q))) in
      omega (arith, a, b)

-- letters for another element do not wait for this one
pub none_waits : (p e : ℕ) (shelf : List LetterView) → sum_by (letter_in (waits_at p e) no_elements (Waiting p)) (filter (λ l. not (is_for e l)) shelf) ≡ 0
none_waits p e [] = refl
none_waits p e (l ∷ ls) = by (is_for e l) refl (none_waits p e ls)
  where
    by : (b : Bool) → is_for e l ≡ b → sum_by (letter_in (waits_at p e) no_elements (Waiting p)) (filter (λ x. not (is_for e x)) ls) ≡ 0
        → sum_by (letter_in (waits_at p e) no_elements (Waiting p)) (cond (not b) (l ∷ filter (λ x. not (is_for e x)) ls) (filter (λ x. not (is_for e x)) ls)) ≡ 0
    by true t later = later
    by false t later =
        let rest : List LetterView = filter (λ x. not (is_for e x)) ls in
        let a : sum_by (letter_in (waits_at p e) no_elements (Waiting p)) (l ∷ rest) ≡ letter_in (waits_at p e) no_elements (Waiting p)
        l + sum_by (letter_in (waits_at p e) no_elements (Waiting p)) rest = sum_by-cons (letter_in (waits_at p e) no_elements (Waiting p)) l rest in
        let b : letter_in (waits_at p e) no_elements (Waiting p) l ≡ 0 = here_waits p e l t in
        omega (arith, a, b, later)
