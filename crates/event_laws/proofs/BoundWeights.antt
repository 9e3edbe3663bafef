-- What is on a PE, or is bound for one, weighs at its site; and what weighs at a site is there.
use Rattle.std.proofs.Common.{◌≡◌, ℕ, zero, suc, ◌+◌, ◌≤◌, List, [], ◌∷◌, Option, Some, None, Bool, true, false, sum_by, arith, refl, sym, ap, subst, inl, inr}
use Rattle.std.specs.Prelude.{Any, MatchOption, slice_get, ◌==◌, ◌&&◌, if◌then◌else◌}
use Rattle.std.proofs.lemmas.Bool.Decides.{nat_tests}
use Rattle.std.proofs.lemmas.List.Sums.{sum_by-cons}
use Rattle.chares.specs.declared.carried.Carried.TheVariants.{Letter, Element}
use Rattle.chares.specs.Elements.{ElementView}
use Rattle.chares.specs.Letters.{LetterView}
use Rattle.pe_state.specs.Pes.{PeView, Parcel, Item}
use Rattle.pe_state.specs.Rooms.{without}
use Rattle.rts_core.specs.Worlds.{WorldView}
use Rattle.event_laws.specs.Bound.{Carries, IsInHand, IsInQueue, IsAddressed, IsBoundFor, StandsOn}
use Rattle.event_laws.proofs.Alone.{any_le}
use Rattle.event_laws.proofs.RoomSums.{room_without}
use Rattle.event_laws.proofs.Sites.{Site, ElementWeight, no_letters, parcel_at, item_out, held_at, hand_at, entry_at, pe_at, queue_at, world_at, sum_from, member_from_le, address_site, letter_in}
use Rattle.event_laws.proofs.Sites.Site.{Fresh, Bound, Waiting, Room}

-- ---- from places to weights

carried_weighs : (k : ElementWeight) (s : Site) (e : ℕ) (x : Parcel) → Carries e x → k s e ≤ parcel_at no_letters k s x
carried_weighs k s e (Letter l) h = absurd h
carried_weighs k s e (Element p) h = let a : k s p.index ≡ k s e = ap (k s) h in omega (arith, a)

held_weighs : (k : ElementWeight) (p e : ℕ) (x : Parcel) (look : Option ℕ) → Carries e x → k (Bound p) e ≤ held_at no_letters k p x look
held_weighs k p e (Letter l) look h = absurd h
held_weighs k p e (Element x) look h = let a : k (Bound p) x.index ≡ k (Bound p) e = ap (k (Bound p)) h in omega (arith, a)

module _ {C A : Type 0} (w : WorldView C A) (k : ElementWeight) where
  -- what is on a PE weighs in its world
  pub pe_weighs : (p n : ℕ) (pe : PeView C) → slice_get w.pes p ≡ Some pe → n ≤ pe_at no_letters k p pe → n ≤ world_at no_letters k w
  pe_weighs p n pe at le =
      let a : pe_at no_letters k p pe ≤ sum_from (λ q (x : PeView C). pe_at no_letters k q x) w.pes = member_from_le (λ q (x : PeView C). pe_at no_letters k q x) w.pes p pe at in
      omega (arith, a, le)

  -- an element on a PE
  pub stands_weighs : (e p : ℕ) (on : StandsOn w e p) → k (Room p e) on.1.index ≤ world_at no_letters k w
  stands_weighs e p (pe, el, at, is) =
      let a : sum_by (λ (x : ℕ × ElementView C). entry_at no_letters k p x) pe.room ≡ k (Room p e) el.index + sum_by
      (λ (x : ℕ × ElementView C). entry_at no_letters k p x) (without e pe.room) = room_without
      (λ (x : ℕ × ElementView C). entry_at no_letters k p x) pe.room e el is in
      pe_weighs p (k (Room p e) el.index) pe at (omega (arith, a))

  hand_weighs : (e p : ℕ) → IsInHand w e p → k (Bound p) e ≤ world_at no_letters k w
  hand_weighs e p (pe, at, h) =
      let a = by pe.hand h in
      pe_weighs p (k (Bound p) e) pe at (omega (arith, a))
    where
      by : (o : Option Item) → MatchOption o ⊥ (λ x. Carries e x.parcel) → k (Bound p) e ≤ hand_at no_letters k p o
      by None h = absurd h
      by (Some x) h = held_weighs k p e x.parcel x.address h

  queue_weighs : (e p : ℕ) → IsInQueue w e p → k (Bound p) e ≤ world_at no_letters k w
  queue_weighs e p (queue, at, any) =
      let a : k (Bound p) e ≤ queue_at no_letters k p queue = any_le (parcel_at no_letters k (Bound p)) (Carries e) (k (Bound p) e) queue
      (λ x. carried_weighs k (Bound p) e x) any in
      let b : queue_at no_letters k p queue ≤ sum_from (queue_at no_letters k) w.queues = member_from_le (queue_at no_letters k) w.queues p queue at in
      omega (arith, a, b)

  addressed_weighs : (e p : ℕ) → IsAddressed w e p → k (Bound p) e ≤ world_at no_letters k w
  addressed_weighs e p (q, pe, at, any) =
      let a : k (Bound p) e ≤ sum_by (item_out no_letters k) pe.outbox = any_le (item_out no_letters k) (λ x. Carries e x.parcel × (x.address ≡ Some p)) (k (Bound p) e) pe.outbox
      (λ x h. subst (λ (v : Option ℕ). k (Bound p) e ≤ parcel_at no_letters k (address_site v) x.parcel) (sym h.1) (carried_weighs k (Bound p) e x.parcel h.0)) any in
      pe_weighs q (k (Bound p) e) pe at (omega (arith, a))

  -- an element that is bound for a PE
  pub bound_weighs : (e p : ℕ) → IsBoundFor w e p → k (Bound p) e ≤ world_at no_letters k w
  bound_weighs e p (inl h) = hand_weighs e p h
  bound_weighs e p (inr (inl h)) = queue_weighs e p h
  bound_weighs e p (inr (inr h)) = addressed_weighs e p h

  -- an element in an outbox
  pub boxed_weighs : (e p n : ℕ) (pe : PeView C) → n ≤ k Fresh e → ((a : ℕ) → n ≤ k (Bound a) e) → slice_get w.pes p ≡ Some pe
      → Any (λ x. Carries e x.parcel) pe.outbox → n ≤ world_at no_letters k w
  boxed_weighs e p n pe fresh bound at any =
      let a : n ≤ sum_by (item_out no_letters k) pe.outbox = any_le (item_out no_letters k) (λ x. Carries e x.parcel) n pe.outbox (λ x h. by x.address x.parcel h) any in
      pe_weighs p n pe at (omega (arith, a))
    where
      by : (o : Option ℕ) (x : Parcel) → Carries e x → n ≤ parcel_at no_letters k (address_site o) x
      by None x h = let a = carried_weighs k Fresh e x h in omega (arith, a, fresh)
      by (Some q) x h = let a = carried_weighs k (Bound q) e x h in let b = bound q in omega (arith, a, b)

-- ---- from weights to places

-- where a list weighs something, some member does
pub some_by : {X : Type 0} (f : X → ℕ) (P : X → Type 0) (xs : List X) → ((x : X) → 1 ≤ f x → P x) → 1 ≤ sum_by f xs → Any P xs
some_by f P [] h le = absurd (omega (arith, le))
some_by {X} f P (x ∷ xs) h le = by (f x) refl (some_by f P xs h)
  where
    by : (n : ℕ) → f x ≡ n → (1 ≤ sum_by f xs → Any P xs) → Any P (x ∷ xs)
    by zero e later =
        let c : sum_by f (x ∷ xs) ≡ f x + sum_by f xs = sum_by-cons f x xs in
        let a : Any P xs = later (omega (arith, c, e, le)) in
        let lt = a.2 in
        (suc a.0, a.1, omega (arith, lt), a.3, a.4)
    by (suc n) e later = (zero, x, omega arith, refl, h x (omega (arith, e)))

pub some_from : {X : Type 0} (f : ℕ → X → ℕ) (xs : List X) → 1 ≤ sum_from f xs → (i : ℕ) × (x : X) × (slice_get xs i ≡ Some x) × (1 ≤ f i x)
some_from f [] le = absurd (omega (arith, le))
some_from {X} f (x ∷ xs) le = by (f 0 x) refl (some_from (λ i. f (suc i)) xs)
  where
    by : (n : ℕ) → f 0 x ≡ n → (1 ≤ sum_from (λ i. f (suc i)) xs → (i : ℕ) × (y : X) × (slice_get xs i ≡ Some y) × (1 ≤ f (suc i) y))
        → (i : ℕ) × (y : X) × (slice_get (x ∷ xs) i ≡ Some y) × (1 ≤ f i y)
    by zero e later =
        let c : sum_from f (x ∷ xs) ≡ f 0 x + sum_from (λ i. f (suc i)) xs = refl in
        let a = later (omega (arith, c, e, le)) in
        (suc a.0, a.1, a.2, a.3)
    by (suc n) e later = (zero, x, refl, omega (arith, e))

-- 1 at an element that is bound for a PE
abbrev pub bound_at : ℕ → ℕ → ElementWeight
bound_at p e (Bound q) i = if (q == p) && (i == e) then 1 else 0
bound_at p e s i = 0

bound_tests : (p e q i : ℕ) → 1 ≤ (if (q == p) && (i == e) then 1 else 0) → (q ≡ p) × (i ≡ e)
bound_tests p e q i le = by (q == p) refl (i == e) refl le
  where
    by : (a : Bool) → (q == p) ≡ a → (b : Bool) → (i == e) ≡ b → 1 ≤ (if a && b then 1 else 0) → (q ≡ p) × (i ≡ e)
    by true s true t le = (let x : q ≡ p = grind (arith, nat_tests) in x, let y : i ≡ e = grind (arith, nat_tests) in y)
    by true s false t le = absurd (omega (arith, le))
    by false s b t le = absurd (omega (arith, le))

module _ (p e : ℕ) where
  parcel_bound : (q : ℕ) (x : Parcel) → 1 ≤ parcel_at no_letters (bound_at p e) (Bound q) x → (q ≡ p) × Carries e x
  parcel_bound q (Letter l) le = absurd (omega (arith, le))
  parcel_bound q (Element x) le = bound_tests p e q x.index le

  item_bound : (o : Option ℕ) (x : Parcel) → 1 ≤ parcel_at no_letters (bound_at p e) (address_site o) x → Carries e x × (o ≡ Some p)
  item_bound None (Letter l) le = absurd (omega (arith, le))
  item_bound None (Element x) le = absurd (omega (arith, le))
  item_bound (Some q) x le = let b = parcel_bound q x le in (b.1, ap (λ (v : ℕ). Some v) b.0)

  held_bound : (q : ℕ) (x : Parcel) (look : Option ℕ) → 1 ≤ held_at no_letters (bound_at p e) q x look → (q ≡ p) × Carries e x
  held_bound q (Letter l) look le = absurd (omega (arith, le))
  held_bound q (Element x) look le = bound_tests p e q x.index le

  hand_bound : (q : ℕ) (hand : Option Item) → 1 ≤ hand_at no_letters (bound_at p e) q hand → (q ≡ p) × MatchOption hand ⊥ (λ x. Carries e x.parcel)
  hand_bound q None le = absurd (omega (arith, le))
  hand_bound q (Some x) le = held_bound q x.parcel x.address le

  none_stand : {C : Type 0} (q : ℕ) (room : List (ℕ × ElementView C)) → sum_by (λ (x : ℕ × ElementView C). entry_at no_letters (bound_at p e) q x) room ≡ 0
  none_stand q [] = refl
  none_stand {C} q (x ∷ xs) =
      let c : sum_by (λ (y : ℕ × ElementView C). entry_at no_letters (bound_at p e) q y) (x ∷ xs) ≡ 0 + sum_by
      (λ (y : ℕ × ElementView C). entry_at no_letters (bound_at p e) q y) xs = sum_by-cons
      (λ (y : ℕ × ElementView C). entry_at no_letters (bound_at p e) q y) x xs in
      omega (arith, c, none_stand q xs)

  none_shelved : (q : ℕ) (shelf : List LetterView) → sum_by (letter_in no_letters (bound_at p e) (Waiting q)) shelf ≡ 0
  none_shelved q [] = refl
  none_shelved q (x ∷ xs) =
      let c : sum_by (letter_in no_letters (bound_at p e) (Waiting q)) (x ∷ xs) ≡ 0 + sum_by
      (letter_in no_letters (bound_at p e) (Waiting q)) xs = sum_by-cons (letter_in no_letters (bound_at p e) (Waiting q)) x xs in
      omega (arith, c, none_shelved q xs)

  module _ {C A : Type 0} (w : WorldView C A) where
    pe_bound : (q : ℕ) (pe : PeView C) → slice_get w.pes q ≡ Some pe → 1 ≤ pe_at no_letters (bound_at p e) q pe → IsBoundFor w e p
    pe_bound q pe at le = by (hand_at no_letters (bound_at p e) q pe.hand) refl
      where
        by : (n : ℕ) → hand_at no_letters (bound_at p e) q pe.hand ≡ n → IsBoundFor w e p
        by zero h =
            let r = none_stand q pe.room in
            let s = none_shelved q pe.shelf in
            let o : 1 ≤ sum_by (item_out no_letters (bound_at p e)) pe.outbox = omega (arith, h, r, s, le) in
            inr (inr (q, pe, at, some_by (item_out no_letters (bound_at p e)) (λ x. Carries e x.parcel × (x.address ≡ Some p)) pe.outbox (λ x. item_bound x.address x.parcel) o))
        by (suc n) h =
            let b = hand_bound q pe.hand (omega (arith, h)) in
            inl (pe, subst (λ (v : ℕ). slice_get w.pes v ≡ Some pe) b.0 at, b.1)

    queue_bound : (q : ℕ) (queue : List Parcel) → slice_get w.queues q ≡ Some queue → 1 ≤ queue_at no_letters (bound_at p e) q queue → IsBoundFor w e p
    queue_bound q queue at le =
        let any : Any (λ x. (q ≡ p) × Carries e x) queue = some_by (parcel_at no_letters (bound_at p e) (Bound q)) (λ x. (q ≡ p) × Carries e x) queue (parcel_bound q) le in
        inr (inl (queue, subst (λ (v : ℕ). slice_get w.queues v ≡ Some queue) any.4.0 at, (any.0, any.1, any.2, any.3, any.4.1)))

    -- what weighs as bound for a PE is bound for it
    pub weighs_bound : 1 ≤ world_at no_letters (bound_at p e) w → IsBoundFor w e p
    weighs_bound le = by (sum_from (λ q (pe : PeView C). pe_at no_letters (bound_at p e) q pe) w.pes) refl
      where
        by : (n : ℕ) → sum_from (λ q (pe : PeView C). pe_at no_letters (bound_at p e) q pe) w.pes ≡ n → IsBoundFor w e p
        by zero h =
            let a = some_from (queue_at no_letters (bound_at p e)) w.queues (omega (arith, h, le)) in
            queue_bound a.0 a.1 a.2 a.3
        by (suc n) h =
            let a = some_from (λ q (pe : PeView C). pe_at no_letters (bound_at p e) q pe) w.pes (omega (arith, h)) in
            pe_bound a.0 a.1 a.2 a.3
