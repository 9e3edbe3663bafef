-- The first of a list, as `front` looks it up.
use Rattle.std.proofs.Common.{◌≡◌, ℕ, ◌<◌, List, [], ◌∷◌, Option, Some, None, true, false, length, drop, slice_get, slice_index_or, ap, sym, ◌∙◌, refl, arith}
use Rattle.pe_state.specs.Pes.{PeView, Item, at_pe, front_address, front_at, front_wants, unaddressed, gave_up, hand_wants_in, looked, looked_in}

pub first_is : {A : Type 0} (xs : List A) (x : A) → x ≡ slice_index_or xs 0 x → 0 < length xs → Some x ≡ slice_get xs 0
first_is [] x e h = absurd (omega arith)
first_is (y ∷ ys) x e h = ap Some e

pub front_address_is : (outbox : List Item) (x : Item) → x ≡ slice_index_or outbox 0 x → 0 < length outbox → x.address ≡ front_address outbox
front_address_is [] x e h = absurd (omega arith)
front_address_is (y ∷ ys) x e h = ap (λ i. i.address) e

-- what it wants to be looked for, and nothing where there is none
pub front_wants_is : (outbox : List Item) (x : Item) → x ≡ slice_index_or outbox 0 x → 0 < length outbox → unaddressed x.parcel x.address ≡ front_wants outbox
front_wants_is [] x e h = absurd (omega arith)
front_wants_is (y ∷ ys) x e h = ap (λ i. unaddressed i.parcel i.address) e

pub none_wanted : (outbox : List Item) → (0 < length outbox → false ≡ true) → None ≡ front_wants outbox
none_wanted [] h = refl
none_wanted (y ∷ ys) h = absurd (let b = h (omega arith) in cc)

pub none_addressed : (outbox : List Item) → (0 < length outbox → false ≡ true) → None ≡ front_address outbox
none_addressed [] h = refl
none_addressed (y ∷ ys) h = absurd (let b = h (omega arith) in cc)

pub none_first : {A : Type 0} (xs : List A) → (0 < length xs → false ≡ true) → None ≡ slice_get xs 0
none_first [] h = refl
none_first (y ∷ ys) h = absurd (let b = h (omega arith) in cc)

-- the front with an address
pub front_again : (q : ℕ) (old xs new : List Item) (x : Item) → old ≡ x ∷ xs → new ≡ at_pe q x ∷ xs → new ≡ front_at q old
front_again q old xs new x e f = f ∙ sym (ap (front_at q) e)

-- the front was looked for, and given up
pub looked_and_gave_up : {C : Type 0} (pe v : PeView C) (q : ℕ) (x : Item) (xs : List Item) → v ≡ pe → pe.hand ≡ None → v.outbox ≡ x ∷ xs
    → record v { outbox = xs; kept = Some q } ≡ gave_up (looked pe q)
looked_and_gave_up {C} pe v q x xs e hand front =
    let looks : looked pe q ≡ looked_in pe q None = ap (λ (o : Option ℕ). looked_in pe q o) (ap (hand_wants_in pe) hand) in
    let first : pe.outbox ≡ x ∷ xs = sym (ap (λ (p : PeView C). p.outbox) e) ∙ front in
    ap (λ (p : PeView C). record p { outbox = xs; kept = Some q }) e
    ∙ sym (ap gave_up looks ∙ ap (λ (o : List Item). record pe { outbox = drop 1 (front_at q o); kept = front_address (front_at q o) }) first)
