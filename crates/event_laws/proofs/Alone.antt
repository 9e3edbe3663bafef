-- What is in one place of a world is in no other. A weight of which a world has at most 1 is at one of its places, and
-- at no other.
use Rattle.std.proofs.Common.{◌≡◌, ◌≢◌, ℕ, zero, suc, ◌+◌, ◌≤◌, List, [], ◌∷◌, Some, sum_by, arith, refl, ap}
use Rattle.std.specs.Prelude.{All, Any, slice_get}
use Rattle.std.proofs.lemmas.List.Elements.{All-nil, All-cons}
use Rattle.std.proofs.lemmas.List.Sums.{sum_by-cons}
use Rattle.pe_state.specs.Pes.{PeView, Parcel}
use Rattle.rts_core.specs.Places.{Life}
use Rattle.rts_core.specs.Worlds.{WorldView}
use Rattle.rts_core.proofs.Weights.{Weight, weigh, of_item, of_hand, of_room, of_pe, of_queue, of_world}

-- ---- lists

-- a member weighs no more than its list
pub member_le : {X : Type 0} (f : X → ℕ) (xs : List X) (i : ℕ) (x : X) → slice_get xs i ≡ Some x → f x ≤ sum_by f xs
member_le f [] i x h = cc
member_le f (y ∷ ys) zero x h =
    let e : y ≡ x = cc in
    let a : f y ≡ f x = ap f e in
    let b : sum_by f (y ∷ ys) ≡ f y + sum_by f ys = sum_by-cons f y ys in
    omega (arith, a, b)
member_le f (y ∷ ys) (suc i) x h =
    let a : f x ≤ sum_by f ys = member_le f ys i x h in
    let b : sum_by f (y ∷ ys) ≡ f y + sum_by f ys = sum_by-cons f y ys in
    omega (arith, a, b)

-- two members at two places weigh no more than their list
pub two_members_le : {X : Type 0} (f : X → ℕ) (xs : List X) (i j : ℕ) (x y : X) → slice_get xs i ≡ Some x → slice_get xs j ≡ Some y → i ≢ j → f x + f y ≤ sum_by f xs
two_members_le f [] i j x y h k ne = cc
two_members_le f (z ∷ zs) zero zero x y h k ne = absurd (ne refl)
two_members_le f (z ∷ zs) zero (suc j) x y h k ne =
    let e : z ≡ x = cc in
    let a : f z ≡ f x = ap f e in
    let b : sum_by f (z ∷ zs) ≡ f z + sum_by f zs = sum_by-cons f z zs in
    let c : f y ≤ sum_by f zs = member_le f zs j y k in
    omega (arith, a, b, c)
two_members_le f (z ∷ zs) (suc i) zero x y h k ne =
    let e : z ≡ y = cc in
    let a : f z ≡ f y = ap f e in
    let b : sum_by f (z ∷ zs) ≡ f z + sum_by f zs = sum_by-cons f z zs in
    let c : f x ≤ sum_by f zs = member_le f zs i x h in
    omega (arith, a, b, c)
two_members_le f (z ∷ zs) (suc i) (suc j) x y h k ne =
    let a : f x + f y ≤ sum_by f zs = two_members_le f zs i j x y h k (λ e. ne (ap suc e)) in
    let b : sum_by f (z ∷ zs) ≡ f z + sum_by f zs = sum_by-cons f z zs in
    omega (arith, a, b)

-- where a list weighs nothing, each member does
pub each_zero : {X : Type 0} (f : X → ℕ) (xs : List X) → sum_by f xs ≡ 0 → All (λ x. f x ≡ 0) xs
each_zero f [] h = All-nil (λ x. f x ≡ 0)
each_zero f (y ∷ ys) h =
    let b : sum_by f (y ∷ ys) ≡ f y + sum_by f ys = sum_by-cons f y ys in
    All-cons (λ x. f x ≡ 0) y ys (omega (arith, b, h)) (each_zero f ys (omega (arith, b, h)))

-- a member of which some property holds weighs no more than its list
pub any_le : {X : Type 0} (f : X → ℕ) (P : X → Type 0) (n : ℕ) (xs : List X) → ((x : X) → P x → n ≤ f x) → Any P xs → n ≤ sum_by f xs
any_le f P n [] le (k, x, lt, is, p) = absurd (omega (arith, lt))
any_le f P n (y ∷ ys) le (zero, x, lt, is, p) =
    let e : y ≡ x = is in
    let a : f y ≡ f x = ap f e in
    let b : sum_by f (y ∷ ys) ≡ f y + sum_by f ys = sum_by-cons f y ys in
    let c : n ≤ f x = le x p in
    omega (arith, a, b, c)
any_le f P n (y ∷ ys) le (suc k, x, lt, is, p) =
    let b : sum_by f (y ∷ ys) ≡ f y + sum_by f ys = sum_by-cons f y ys in
    let c : n ≤ sum_by f ys = any_le f P n ys le (k, x, omega (arith, lt), is, p) in
    omega (arith, b, c)

-- where a list weighs at most 1, and a member 1, a member at another place weighs nothing
pub elsewhere_zero : {X : Type 0} (f : X → ℕ) (xs : List X) (i j : ℕ) (x y : X) → sum_by f xs ≤ 1 → slice_get xs i ≡ Some x → 1 ≤ f x → slice_get xs j ≡ Some y → i ≢ j → f y ≡ 0
elsewhere_zero f xs i j x y one h there k ne =
    let a : f x + f y ≤ sum_by f xs = two_members_le f xs i j x y h k ne in
    omega (arith, a, one, there)

-- ---- worlds

module _ {C A : Type 0} (g : Weight) (k : Life → ℕ) (w : WorldView C A) (one : of_world g k w ≤ 1) where
  -- what is on a PE is on no other PE
  pub on_no_other_pe : (p q : ℕ) (pe other : PeView C) → slice_get w.pes p ≡ Some pe → 1 ≤ of_pe g k pe → slice_get w.pes q ≡ Some other → p ≢ q → of_pe g k other ≡ 0
  on_no_other_pe p q pe other h there o ne =
      elsewhere_zero (of_pe g k) w.pes p q pe other (let n : sum_by (of_pe g k) w.pes + sum_by (of_queue g k) w.queues ≤ 1 = one in omega (arith, n)) h there o ne

  -- and in no queue
  pub in_no_queue : (p q : ℕ) (pe : PeView C) (queue : List Parcel) → slice_get w.pes p ≡ Some pe → 1 ≤ of_pe g k pe → slice_get w.queues q ≡ Some queue → of_queue g k queue ≡ 0
  in_no_queue p q pe queue h there o =
      let a : of_pe g k pe ≤ sum_by (of_pe g k) w.pes = member_le (of_pe g k) w.pes p pe h in
      let b : of_queue g k queue ≤ sum_by (of_queue g k) w.queues = member_le (of_queue g k) w.queues q queue o in
      let n : sum_by (of_pe g k) w.pes + sum_by (of_queue g k) w.queues ≤ 1 = one in
      omega (arith, a, b, n, there)

  -- a PE weighs at most 1, and so what is in one part of it is in no other
  pub pe_le_one : (p : ℕ) (pe : PeView C) → slice_get w.pes p ≡ Some pe
      → of_hand g k pe.hand + (sum_by (of_item g k) pe.outbox + (sum_by (weigh g) pe.shelf + of_room g k pe.room)) ≤ 1
  pe_le_one p pe h =
      let a : of_pe g k pe ≤ sum_by (of_pe g k) w.pes = member_le (of_pe g k) w.pes p pe h in
      let n : sum_by (of_pe g k) w.pes + sum_by (of_queue g k) w.queues ≤ 1 = one in
      omega (arith, a, n)
