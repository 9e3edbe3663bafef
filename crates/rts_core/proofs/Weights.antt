-- Weights of what a world holds: each letter weighs by its number, its element and its body, and each element by its
-- index and its journal.
use Rattle.std.proofs.Common.{◌≡◌, ℕ, ◌+◌, List, [], ◌∷◌, map, Option, Some, None, sum_by, arith, refl, sym}
use Rattle.std.specs.Prelude.{cond}
use Rattle.std.specs.List.{flat_map}
use Rattle.std.specs.Map.{lookup, values_of}
use Rattle.std.specs.Ordering.{nat_cmp, is_eq, match_ordering}
use Rattle.std.specs.declared.cmp.Ordering.{Ordering}
use Rattle.std.specs.declared.cmp.Ordering.TheVariants.{Less, Equal, Greater}
use Rattle.std.specs.BTreeMap.{is_at, insert_entry}
use Rattle.std.proofs.lemmas.List.Sums.{sum_by-cons, sum_by-append}
use Rattle.std.proofs.lemmas.Option.{none-some}
use Rattle.chares.specs.declared.carried.Carried.TheVariants.{Letter, Element}
use Rattle.chares.specs.Elements.{ElementView}
use Rattle.chares.specs.Letters.{LetterView}
use Rattle.pe_state.specs.Pes.{PeView, Parcel, Item}
use Rattle.pe_state.specs.Rooms.{found, joined}
use Rattle.rts_core.specs.Places.{Life, life_of}
use Rattle.rts_core.specs.Worlds.{WorldView}

abbrev pub Weight : Type 0
Weight = ℕ × ℕ → ℕ → List ℕ → ℕ

abbrev pub weigh : Weight → LetterView → ℕ
weigh g l = g l.id l.to l.body

module _ (g : Weight) (k : Life → ℕ) where
  abbrev pub of_parcel : Parcel → ℕ
  of_parcel (Letter l) = weigh g l
  of_parcel (Element p) = k (p.index, p.journal)

  abbrev pub of_item : Item → ℕ
  of_item x = of_parcel x.parcel

  abbrev pub of_hand : Option Item → ℕ
  of_hand None = 0
  of_hand (Some x) = of_item x

  abbrev pub of_element : {C : Type 0} → ElementView C → ℕ
  of_element el = k (life_of el)

  abbrev pub of_room : {C : Type 0} → List (ℕ × ElementView C) → ℕ
  of_room room = sum_by of_element (values_of room)

  abbrev pub of_pe : {C : Type 0} → PeView C → ℕ
  of_pe pe = of_hand pe.hand + (sum_by of_item pe.outbox + (sum_by (weigh g) pe.shelf + of_room pe.room))

  abbrev pub of_queue : List Parcel → ℕ
  of_queue queue = sum_by of_parcel queue

  abbrev pub of_world : {C A : Type 0} → WorldView C A → ℕ
  of_world w = sum_by of_pe w.pes + sum_by of_queue w.queues

-- the members of the lists of a list weigh what the lists do
pub sum_by-flat_map : {X Y : Type 0} (f : Y → ℕ) (h : X → List Y) (xs : List X) → sum_by f (flat_map h xs) ≡ sum_by (λ x. sum_by f (h x)) xs
sum_by-flat_map f h [] = refl
sum_by-flat_map f h (x ∷ xs) =
    let a = sum_by-append f (h x) (flat_map h xs) in
    let b = sum_by-flat_map f h xs in
    let c = sum_by-cons (λ y. sum_by f (h y)) x xs in
    omega (arith, a, b, c)

pub sum_by-map : {X Y : Type 0} (f : Y → ℕ) (h : X → Y) (xs : List X) → sum_by f (map h xs) ≡ sum_by (λ x. f (h x)) xs
sum_by-map f h [] = refl
sum_by-map f h (x ∷ xs) =
    let a = sum_by-cons f (h x) (map h xs) in
    let b = sum_by-map f h xs in
    let c = sum_by-cons (λ y. f (h y)) x xs in
    omega (arith, a, b, c)

pub sum_by-same : {X : Type 0} (f h : X → ℕ) → ((x : X) → f x ≡ h x) → (xs : List X) → sum_by f xs ≡ sum_by h xs
sum_by-same f h e [] = refl
sum_by-same f h e (x ∷ xs) =
    let a = sum_by-cons f x xs in
    let b = sum_by-cons h x xs in
    let c = sum_by-same f h e xs in
    let d = e x in
    omega (arith, a, b, c, d)

pub sum_by-both : {X : Type 0} (f h : X → ℕ) (xs : List X) → sum_by (λ x. f x + h x) xs ≡ sum_by f xs + sum_by h xs
sum_by-both f h [] = refl
sum_by-both f h (x ∷ xs) =
    let a = sum_by-cons f x xs in
    let b = sum_by-cons h x xs in
    let c = sum_by-cons (λ y. f y + h y) x xs in
    let d = sum_by-both f h xs in
    omega (arith, a, b, c, d)

-- what comes is added to a sum
pub sum_joined : {X : Type 0} → (f : X → ℕ) → (es : List (ℕ × X)) (e : ℕ) (x : X) → found e es ≡ None → sum_by f (values_of (joined e x es)) ≡ sum_by f (values_of es) + f x
sum_joined f [] e x n = omega (arith, sum_by-cons f x [])
sum_joined {X} f (p ∷ es) e x n = by (nat_cmp e p.0) n (sum_joined f es e x)
  where
    by : (r : Ordering) → cond (is_eq r) (Some p.1) (lookup (is_at (nat_cmp e)) es) ≡ None
        → (lookup (is_at (nat_cmp e)) es ≡ None → sum_by f (values_of (insert_entry nat_cmp es e x)) ≡ sum_by f (values_of es) + f x)
        → sum_by f (values_of (match_ordering r ((e, x) ∷ p ∷ es) ((p.0, x) ∷ es) (p ∷ insert_entry nat_cmp es e x))) ≡ sum_by f (values_of (p ∷ es)) + f x
    by Less m later = omega (arith, sum_by-cons f x (values_of (p ∷ es)))
    by Equal m later = absurd (none-some p.1 (sym m))
    by Greater m later = omega (arith, sum_by-cons f p.1 (values_of es), sum_by-cons f p.1 (values_of (insert_entry nat_cmp es e x)), later m)
