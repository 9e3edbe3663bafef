-- Weights of what a world holds by where it is. What matters of a place is for which PE a letter or an element is bound,
-- and what a look gave: so a parcel may pass from an outbox to a queue and to a hand, and stay at its site.
use Rattle.std.proofs.Common.{◌≡◌, ℕ, zero, suc, ◌+◌, ◌≤◌, List, [], ◌∷◌, Option, Some, None, sum_by, arith, refl, ap}
use Rattle.std.specs.Prelude.{slice_get, slice_set, ◌==◌, if◌then◌else◌}
use Rattle.std.proofs.lemmas.List.Sums.{sum_by-cons}
use Rattle.chares.specs.declared.carried.Carried.TheVariants.{Letter, Element}
use Rattle.chares.specs.Elements.{ElementView}
use Rattle.chares.specs.Letters.{LetterView}
use Rattle.pe_state.specs.Pes.{PeView, Parcel, Item}
use Rattle.rts_core.specs.Worlds.{WorldView}

-- where a letter or an element is: in an outbox without an address; bound for a PE, in an outbox, in the queue of that
-- PE, or in its hand without a look; a letter in a hand, with a look that names another PE; a letter in the hand of a PE
-- with a look that names this one, or on its shelf; an element in the room of a PE, beside an index
pub data Site : Type 0 where
  Fresh : Site
  Bound : ℕ → Site
  Chasing : ℕ → Site
  Waiting : ℕ → Site
  Room : ℕ → ℕ → Site

-- a letter weighs by its site, its number and its element, and an element by its site and its index
abbrev pub LetterWeight : Type 0
LetterWeight = Site → ℕ × ℕ → ℕ → ℕ

abbrev pub ElementWeight : Type 0
ElementWeight = Site → ℕ → ℕ

abbrev pub address_site : Option ℕ → Site
address_site None = Fresh
address_site (Some a) = Bound a

abbrev pub look_site : ℕ → Option ℕ → Site
look_site p None = Bound p
look_site p (Some q) = if q == p then Waiting p else Chasing q

-- the sum over a list of what each member weighs at its index
abbrev pub sum_from : {X : Type 0} → (ℕ → X → ℕ) → List X → ℕ
sum_from f [] = 0
sum_from f (x ∷ xs) = f 0 x + sum_from (λ i. f (suc i)) xs

module _ (g : LetterWeight) (k : ElementWeight) where
  abbrev pub parcel_at : Site → Parcel → ℕ
  parcel_at s (Letter l) = g s l.id l.to
  parcel_at s (Element p) = k s p.index

  abbrev pub item_out : Item → ℕ
  item_out x = parcel_at (address_site x.address) x.parcel

  abbrev pub held_at : ℕ → Parcel → Option ℕ → ℕ
  held_at p (Letter l) look = g (look_site p look) l.id l.to
  held_at p (Element x) look = k (Bound p) x.index

  abbrev pub hand_at : ℕ → Option Item → ℕ
  hand_at p None = 0
  hand_at p (Some x) = held_at p x.parcel x.address

  abbrev pub letter_in : Site → LetterView → ℕ
  letter_in s l = g s l.id l.to

  abbrev pub entry_at : {C : Type 0} → ℕ → ℕ × ElementView C → ℕ
  entry_at p x = k (Room p x.0) x.1.index

  abbrev pub pe_at : {C : Type 0} → ℕ → PeView C → ℕ
  pe_at p pe = hand_at p pe.hand + (sum_by item_out pe.outbox + (sum_by (letter_in (Waiting p)) pe.shelf + sum_by (entry_at p) pe.room))

  abbrev pub queue_at : ℕ → List Parcel → ℕ
  queue_at q queue = sum_by (parcel_at (Bound q)) queue

  abbrev pub world_at : {C A : Type 0} → WorldView C A → ℕ
  world_at w = sum_from pe_at w.pes + sum_from queue_at w.queues

-- no letter, and no element
abbrev pub no_letters : LetterWeight
no_letters s id to = 0

abbrev pub no_elements : ElementWeight
no_elements s e = 0

-- ---- sums

-- one member of a list is replaced
pub sum_from-set : {X : Type 0} (f : ℕ → X → ℕ) (xs : List X) (i : ℕ) (x y : X) → slice_get xs i ≡ Some x → sum_from f (slice_set xs i y) + f i x ≡ sum_from f xs + f i y
sum_from-set f [] i x y h = cc
sum_from-set f (z ∷ zs) zero x y h =
    let e : z ≡ x = cc in
    let a : f 0 z ≡ f 0 x = ap (f 0) e in
    let b : sum_from f (z ∷ zs) ≡ f 0 z + sum_from (λ i. f (suc i)) zs = refl in
    let c : sum_from f (y ∷ zs) ≡ f 0 y + sum_from (λ i. f (suc i)) zs = refl in
    omega (arith, a, b, c)
sum_from-set f (z ∷ zs) (suc i) x y h =
    let a = sum_from-set (λ j. f (suc j)) zs i x y h in
    let b : sum_from f (z ∷ zs) ≡ f 0 z + sum_from (λ i. f (suc i)) zs = refl in
    let c : sum_from f (z ∷ slice_set zs i y) ≡ f 0 z + sum_from (λ i. f (suc i)) (slice_set zs i y) = refl in
    omega (arith, a, b, c)

-- a member weighs no more than its list
pub member_from_le : {X : Type 0} (f : ℕ → X → ℕ) (xs : List X) (i : ℕ) (x : X) → slice_get xs i ≡ Some x → f i x ≤ sum_from f xs
member_from_le f [] i x h = cc
member_from_le f (z ∷ zs) zero x h =
    let e : z ≡ x = cc in
    let a : f 0 z ≡ f 0 x = ap (f 0) e in
    let b : sum_from f (z ∷ zs) ≡ f 0 z + sum_from (λ i. f (suc i)) zs = refl in
    omega (arith, a, b)
member_from_le f (z ∷ zs) (suc i) x h =
    let a : f (suc i) x ≤ sum_from (λ j. f (suc j)) zs = member_from_le (λ j. f (suc j)) zs i x h in
    let b : sum_from f (z ∷ zs) ≡ f 0 z + sum_from (λ i. f (suc i)) zs = refl in
    omega (arith, a, b)

-- a list of which each member weighs nothing
pub sum_from-none : {X : Type 0} (f : ℕ → X → ℕ) (xs : List X) → ((i : ℕ) (x : X) → slice_get xs i ≡ Some x → f i x ≡ 0) → sum_from f xs ≡ 0
sum_from-none f [] h = refl
sum_from-none f (z ∷ zs) h =
    let a : f 0 z ≡ 0 = h 0 z refl in
    let b = sum_from-none (λ i. f (suc i)) zs (λ i. h (suc i)) in
    let c : sum_from f (z ∷ zs) ≡ f 0 z + sum_from (λ i. f (suc i)) zs = refl in
    omega (arith, a, b, c)

-- a list of which each member weighs what it weighs by itself
pub sum_from-same : {X : Type 0} (f : ℕ → X → ℕ) (h : X → ℕ) (xs : List X) → ((i : ℕ) (x : X) → f i x ≡ h x) → sum_from f xs ≡ sum_by h xs
sum_from-same f h [] e = refl
sum_from-same f h (z ∷ zs) e =
    let a : f 0 z ≡ h z = e 0 z in
    let b = sum_from-same (λ i. f (suc i)) h zs (λ i. e (suc i)) in
    let c : sum_from f (z ∷ zs) ≡ f 0 z + sum_from (λ i. f (suc i)) zs = refl in
    let d : sum_by h (z ∷ zs) ≡ h z + sum_by h zs = sum_by-cons h z zs in
    omega (arith, a, b, c, d)

-- ---- what weighs nothing by two weights weighs nothing by a third

pub zeros_by : {X : Type 0} (f h r : X → ℕ) (xs : List X) → ((x : X) → f x ≡ 0 → h x ≡ 0 → r x ≡ 0) → sum_by f xs ≡ 0 → sum_by h xs ≡ 0 → sum_by r xs ≡ 0
zeros_by f h r [] z a b = refl
zeros_by f h r (x ∷ xs) z a b =
    let c : sum_by f (x ∷ xs) ≡ f x + sum_by f xs = sum_by-cons f x xs in
    let d : sum_by h (x ∷ xs) ≡ h x + sum_by h xs = sum_by-cons h x xs in
    let e : sum_by r (x ∷ xs) ≡ r x + sum_by r xs = sum_by-cons r x xs in
    let here : r x ≡ 0 = z x (omega (arith, a, c)) (omega (arith, b, d)) in
    let rest : sum_by r xs ≡ 0 = zeros_by f h r xs z (omega (arith, a, c)) (omega (arith, b, d)) in
    omega (arith, e, here, rest)

pub zeros_from : {X : Type 0} (f h r : ℕ → X → ℕ) (xs : List X) → ((i : ℕ) (x : X) → f i x ≡ 0 → h i x ≡ 0 → r i x ≡ 0) → sum_from f xs ≡ 0 → sum_from h xs ≡ 0 → sum_from r xs ≡ 0
zeros_from f h r [] z a b = refl
zeros_from f h r (x ∷ xs) z a b =
    let c : sum_from f (x ∷ xs) ≡ f 0 x + sum_from (λ i. f (suc i)) xs = refl in
    let d : sum_from h (x ∷ xs) ≡ h 0 x + sum_from (λ i. h (suc i)) xs = refl in
    let e : sum_from r (x ∷ xs) ≡ r 0 x + sum_from (λ i. r (suc i)) xs = refl in
    let here : r 0 x ≡ 0 = z 0 x (omega (arith, a, c)) (omega (arith, b, d)) in
    let rest : sum_from (λ i. r (suc i)) xs ≡ 0 = zeros_from (λ i. f (suc i)) (λ i. h (suc i)) (λ i. r (suc i)) xs (λ i. z (suc i)) (omega (arith, a, c)) (omega (arith, b, d)) in
    omega (arith, e, here, rest)

module _ (g1 : LetterWeight) (k1 : ElementWeight) (g2 : LetterWeight) (k2 : ElementWeight) (g3 : LetterWeight) (k3 : ElementWeight)
    (gs : (s : Site) (id : ℕ × ℕ) (to : ℕ) → g1 s id to ≡ 0 → g2 s id to ≡ 0 → g3 s id to ≡ 0)
    (ks : (s : Site) (e : ℕ) → k1 s e ≡ 0 → k2 s e ≡ 0 → k3 s e ≡ 0) where
  parcel_zeros : (s : Site) (x : Parcel) → parcel_at g1 k1 s x ≡ 0 → parcel_at g2 k2 s x ≡ 0 → parcel_at g3 k3 s x ≡ 0
  parcel_zeros s (Letter l) a b = gs s l.id l.to a b
  parcel_zeros s (Element p) a b = ks s p.index a b

  held_zeros : (p : ℕ) (x : Parcel) (look : Option ℕ) → held_at g1 k1 p x look ≡ 0 → held_at g2 k2 p x look ≡ 0 → held_at g3 k3 p x look ≡ 0
  held_zeros p (Letter l) look a b = gs (look_site p look) l.id l.to a b
  held_zeros p (Element x) look a b = ks (Bound p) x.index a b

  hand_zeros : (p : ℕ) (hand : Option Item) → hand_at g1 k1 p hand ≡ 0 → hand_at g2 k2 p hand ≡ 0 → hand_at g3 k3 p hand ≡ 0
  hand_zeros p None a b = refl
  hand_zeros p (Some x) a b = held_zeros p x.parcel x.address a b

  pe_zeros : {C : Type 0} (p : ℕ) (pe : PeView C) → pe_at g1 k1 p pe ≡ 0 → pe_at g2 k2 p pe ≡ 0 → pe_at g3 k3 p pe ≡ 0
  pe_zeros {C} p pe a b =
      let hand : hand_at g3 k3 p pe.hand ≡ 0 = hand_zeros p pe.hand (omega (arith, a)) (omega (arith, b)) in
      let box : sum_by (item_out g3 k3) pe.outbox ≡ 0 = zeros_by (item_out g1 k1) (item_out g2 k2) (item_out g3 k3) pe.outbox
      (λ x. parcel_zeros (address_site x.address) x.parcel) (omega (arith, a)) (omega (arith, b)) in
      let shelf : sum_by (letter_in g3 k3 (Waiting p)) pe.shelf ≡ 0 = zeros_by (letter_in g1 k1 (Waiting p)) (letter_in g2 k2 (Waiting p))
      (letter_in g3 k3 (Waiting p)) pe.shelf (λ l. gs (Waiting p) l.id l.to) (omega (arith, a)) (omega (arith, b)) in
      let room : sum_by (entry_at g3 k3 p) pe.room ≡ 0 = zeros_by (λ (x : ℕ × ElementView C). entry_at g1 k1 p x)
      (λ (x : ℕ × ElementView C). entry_at g2 k2 p x) (λ (x : ℕ × ElementView C). entry_at g3 k3 p x) pe.room
      (λ x. ks (Room p x.0) x.1.index) (omega (arith, a)) (omega (arith, b)) in
      omega (arith, hand, box, shelf, room)

  pub world_zeros : {C A : Type 0} (w : WorldView C A) → world_at g1 k1 w ≡ 0 → world_at g2 k2 w ≡ 0 → world_at g3 k3 w ≡ 0
  world_zeros {C} w a b =
      let pes : sum_from (λ p (pe : PeView C). pe_at g3 k3 p pe) w.pes ≡ 0 = zeros_from (λ p (pe : PeView C). pe_at g1 k1 p pe)
      (λ p (pe : PeView C). pe_at g2 k2 p pe) (λ p (pe : PeView C). pe_at g3 k3 p pe) w.pes (λ p pe. pe_zeros p pe) (omega (arith, a)) (omega (arith, b)) in
      let queues : sum_from (queue_at g3 k3) w.queues ≡ 0 = zeros_from (queue_at g1 k1) (queue_at g2 k2) (queue_at g3 k3) w.queues
      (λ q queue. zeros_by (parcel_at g1 k1 (Bound q)) (parcel_at g2 k2 (Bound q)) (parcel_at g3 k3 (Bound q)) queue
      (parcel_zeros (Bound q))) (omega (arith, a)) (omega (arith, b)) in
      omega (arith, pes, queues)
