-- A room with one more element has each element beside its own index.
use Rattle.std.proofs.Common.{◌≡◌, ℕ, List, [], ◌∷◌, Option, Some, None, IfSome, Bool, true, false, refl, sym, ◌∙◌}
use Rattle.std.specs.Prelude.{cond}
use Rattle.std.specs.Ordering.{nat_cmp, is_eq, match_ordering}
use Rattle.std.specs.declared.cmp.Ordering.{Ordering}
use Rattle.std.specs.declared.cmp.Ordering.TheVariants.{Less, Equal, Greater}
use Rattle.std.specs.BTreeMap.{is_at, insert_entry}
use Rattle.std.specs.Map.{lookup}
use Rattle.std.proofs.lemmas.Map.Lookups.{exact_unsigned}
use Rattle.chares.specs.Elements.{ElementView}
use Rattle.pe_state.specs.Rooms.{found, joined, IsKeyed}

pub equals : (q e : ℕ) → is_eq (nat_cmp q e) ≡ true → q ≡ e
equals q e t = by (nat_cmp q e) refl t
  where
    by : (r : Ordering) → nat_cmp q e ≡ r → is_eq r ≡ true → q ≡ e
    by Less m f = cc
    by Equal m f = exact_unsigned q e m
    by Greater m f = cc

pub pick : {X : Type 0} (b : Bool) (a o : Option X) (P : X → Type 0) → (b ≡ true → IfSome a P) → (b ≡ false → IfSome o P) → IfSome (cond b a o) P
pick true a o P f g = f refl
pick false a o P f g = g refl

first_of : {X : Type 0} (b : Bool) (a o : Option X) (P : X → Type 0) → IfSome (cond b a o) P → b ≡ true → IfSome a P
first_of true a o P h t = h
first_of false a o P h t = cc

second_of : {X : Type 0} (b : Bool) (a o : Option X) (P : X → Type 0) → IfSome (cond b a o) P → b ≡ false → IfSome o P
second_of true a o P h t = cc
second_of false a o P h t = h

-- what is found at q in a room with x at e is x, if q is e, and else what was found there before
keyed_at : {C : Type 0} (q e : ℕ) (x : ElementView C) (room : List (ℕ × ElementView C))
    → x.index ≡ e → IfSome (found q room) (λ el. el.index ≡ q) → IfSome (found q (joined e x room)) (λ el. el.index ≡ q)
keyed_at {C} q e x [] i h =
    let P : ElementView C → Type 0 = λ el. el.index ≡ q in
    pick (is_eq (nat_cmp q e)) (Some x) None P (λ t. i ∙ sym (equals q e t)) (λ t. tt)
keyed_at {C} q e x (p ∷ ps) i h = by (nat_cmp e p.0) refl (keyed_at q e x ps i)
  where
    by : (s : Ordering) → nat_cmp e p.0 ≡ s
        → (IfSome (found q ps) (λ (el : ElementView C). el.index ≡ q) → IfSome (found q (joined e x ps)) (λ (el : ElementView C). el.index ≡ q))
        → IfSome (lookup (is_at (nat_cmp q)) (match_ordering s ((e, x) ∷ p ∷ ps) ((p.0, x) ∷ ps) (p ∷ insert_entry nat_cmp ps e x))) (λ (el : ElementView C). el.index ≡ q)
    by Less m later = pick (is_eq (nat_cmp q e)) (Some x) (found q (p ∷ ps)) (λ (el : ElementView C). el.index ≡ q) (λ t. i ∙ sym (equals q e t)) (λ t. h)
    by Equal m later = pick (is_eq (nat_cmp q p.0)) (Some x) (found q ps) (λ (el : ElementView C). el.index ≡ q)
        (λ t. i ∙ exact_unsigned e p.0 m ∙ sym (equals q p.0 t))
        (λ t. second_of (is_eq (nat_cmp q p.0)) (Some p.1) (found q ps) (λ (el : ElementView C). el.index ≡ q) h t)
    by Greater m later = pick (is_eq (nat_cmp q p.0)) (Some p.1) (found q (joined e x ps)) (λ (el : ElementView C). el.index ≡ q)
        (λ t. first_of (is_eq (nat_cmp q p.0)) (Some p.1) (found q ps) (λ (el : ElementView C). el.index ≡ q) h t)
        (λ t. later (second_of (is_eq (nat_cmp q p.0)) (Some p.1) (found q ps) (λ (el : ElementView C). el.index ≡ q) h t))

pub keyed_joined : {C : Type 0} (e : ℕ) (x : ElementView C) (room : List (ℕ × ElementView C)) → x.index ≡ e → IsKeyed room → IsKeyed (joined e x room)
keyed_joined e x room i h = λ q. keyed_at q e x room i (h q)
