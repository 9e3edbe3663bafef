-- Where two weights together are no more than a third at each site, they are no more than it in a world.
use Rattle.std.proofs.Common.{◌≡◌, ℕ, suc, ◌+◌, ◌≤◌, List, [], ◌∷◌, Option, Some, None, sum_by, arith, refl}
use Rattle.std.proofs.lemmas.List.Sums.{sum_by-cons}
use Rattle.chares.specs.declared.carried.Carried.TheVariants.{Letter, Element}
use Rattle.chares.specs.Elements.{ElementView}
use Rattle.pe_state.specs.Pes.{PeView, Parcel, Item}
use Rattle.rts_core.specs.Worlds.{WorldView}
use Rattle.event_laws.proofs.Sites.{Site, LetterWeight, ElementWeight, parcel_at, item_out, held_at, hand_at, letter_in, entry_at, pe_at, queue_at, world_at, sum_from, address_site, look_site}
use Rattle.event_laws.proofs.Sites.Site.{Bound, Waiting, Room}

pub both_by : {X : Type 0} (f h r : X → ℕ) (xs : List X) → ((x : X) → f x + h x ≤ r x) → sum_by f xs + sum_by h xs ≤ sum_by r xs
both_by f h r [] le = omega arith
both_by f h r (x ∷ xs) le =
    let c : sum_by f (x ∷ xs) ≡ f x + sum_by f xs = sum_by-cons f x xs in
    let d : sum_by h (x ∷ xs) ≡ h x + sum_by h xs = sum_by-cons h x xs in
    let e : sum_by r (x ∷ xs) ≡ r x + sum_by r xs = sum_by-cons r x xs in
    let here : f x + h x ≤ r x = le x in
    let rest = both_by f h r xs le in
    omega (arith, c, d, e, here, rest)

pub both_from : {X : Type 0} (f h r : ℕ → X → ℕ) (xs : List X) → ((i : ℕ) (x : X) → f i x + h i x ≤ r i x) → sum_from f xs + sum_from h xs ≤ sum_from r xs
both_from f h r [] le = omega arith
both_from f h r (x ∷ xs) le =
    let c : sum_from f (x ∷ xs) ≡ f 0 x + sum_from (λ i. f (suc i)) xs = refl in
    let d : sum_from h (x ∷ xs) ≡ h 0 x + sum_from (λ i. h (suc i)) xs = refl in
    let e : sum_from r (x ∷ xs) ≡ r 0 x + sum_from (λ i. r (suc i)) xs = refl in
    let here : f 0 x + h 0 x ≤ r 0 x = le 0 x in
    let rest = both_from (λ i. f (suc i)) (λ i. h (suc i)) (λ i. r (suc i)) xs (λ i. le (suc i)) in
    omega (arith, c, d, e, here, rest)

module _ (g1 : LetterWeight) (k1 : ElementWeight) (g2 : LetterWeight) (k2 : ElementWeight) (g3 : LetterWeight) (k3 : ElementWeight)
    (gs : (s : Site) (id : ℕ × ℕ) (to : ℕ) → g1 s id to + g2 s id to ≤ g3 s id to)
    (ks : (s : Site) (e : ℕ) → k1 s e + k2 s e ≤ k3 s e) where
  parcel_both : (s : Site) (x : Parcel) → parcel_at g1 k1 s x + parcel_at g2 k2 s x ≤ parcel_at g3 k3 s x
  parcel_both s (Letter l) = gs s l.id l.to
  parcel_both s (Element p) = ks s p.index

  held_both : (p : ℕ) (x : Parcel) (look : Option ℕ) → held_at g1 k1 p x look + held_at g2 k2 p x look ≤ held_at g3 k3 p x look
  held_both p (Letter l) look = gs (look_site p look) l.id l.to
  held_both p (Element x) look = ks (Bound p) x.index

  hand_both : (p : ℕ) (hand : Option Item) → hand_at g1 k1 p hand + hand_at g2 k2 p hand ≤ hand_at g3 k3 p hand
  hand_both p None = omega arith
  hand_both p (Some x) = held_both p x.parcel x.address

  pe_both : {C : Type 0} (p : ℕ) (pe : PeView C) → pe_at g1 k1 p pe + pe_at g2 k2 p pe ≤ pe_at g3 k3 p pe
  pe_both {C} p pe =
      let hand = hand_both p pe.hand in
      let box : sum_by (item_out g1 k1) pe.outbox + sum_by (item_out g2 k2) pe.outbox ≤ sum_by (item_out g3 k3) pe.outbox = both_by
      (item_out g1 k1) (item_out g2 k2) (item_out g3 k3) pe.outbox (λ x. parcel_both (address_site x.address) x.parcel) in
      let shelf : sum_by (letter_in g1 k1 (Waiting p)) pe.shelf + sum_by (letter_in g2 k2 (Waiting p)) pe.shelf ≤ sum_by
      (letter_in g3 k3 (Waiting p)) pe.shelf = both_by (letter_in g1 k1 (Waiting p)) (letter_in g2 k2 (Waiting p))
      (letter_in g3 k3 (Waiting p)) pe.shelf (λ l. gs (Waiting p) l.id l.to) in
      let room = both_by (λ (x : ℕ × ElementView C). entry_at g1 k1 p x) (λ (x : ℕ × ElementView C). entry_at g2 k2 p x)
      (λ (x : ℕ × ElementView C). entry_at g3 k3 p x) pe.room (λ x. ks (Room p x.0) x.1.index) in
      omega (arith, hand, box, shelf, room)

  pub world_both : {C A : Type 0} (w : WorldView C A) → world_at g1 k1 w + world_at g2 k2 w ≤ world_at g3 k3 w
  world_both {C} w =
      let pes = both_from (λ p (pe : PeView C). pe_at g1 k1 p pe) (λ p (pe : PeView C). pe_at g2 k2 p pe) (λ p (pe : PeView C). pe_at g3 k3 p pe) w.pes (λ p pe. pe_both p pe) in
      let queues = both_from (queue_at g1 k1) (queue_at g2 k2) (queue_at g3 k3) w.queues
      (λ q queue. both_by (parcel_at g1 k1 (Bound q)) (parcel_at g2 k2 (Bound q)) (parcel_at g3 k3 (Bound q)) queue (parcel_both (Bound q))) in
      omega (arith, pes, queues)
