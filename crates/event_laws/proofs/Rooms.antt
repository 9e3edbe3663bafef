-- What is found in a room after one element of it has changed, come or gone.
use Rattle.std.proofs.Common.{◌≡◌, ◌≢◌, ℕ, List, [], ◌∷◌, Option, Some, None, Bool, true, false, arith, refl, sym, ◌∙◌, ap, subst}
use Rattle.std.specs.Prelude.{All, IfSome, cond}
use Rattle.std.specs.Map.{values_of}
use Rattle.std.specs.Ordering.{nat_cmp, is_eq, match_ordering}
use Rattle.std.specs.declared.cmp.Ordering.{Ordering}
use Rattle.std.specs.declared.cmp.Ordering.TheVariants.{Less, Equal, Greater}
use Rattle.std.specs.BTreeMap.{is_at, insert_entry}
use Rattle.std.proofs.lemmas.Bool.Decides.{nat_tests}
use Rattle.std.proofs.lemmas.List.Elements.{All-cons, All-head, All-tail}
use Rattle.std.proofs.lemmas.Map.Lookups.{exact_unsigned}
use Rattle.std.proofs.lemmas.Map.Views.{IfSome-lookup_from_All}
use Rattle.chares.specs.Elements.{ElementView}
use Rattle.pe_state.specs.Rooms.{found, changed, joined, without}

-- whether two indices are the same
pub same_is : (q e : ℕ) → is_eq (nat_cmp q e) ≡ true → q ≡ e
same_is q e t = by (nat_cmp q e) refl t
  where
    by : (r : Ordering) → nat_cmp q e ≡ r → is_eq r ≡ true → q ≡ e
    by Less m f = cc
    by Equal m f = exact_unsigned q e m
    by Greater m f = cc

pub differs : (q e : ℕ) → q ≢ e → is_eq (nat_cmp q e) ≡ false
differs q e ne = by (is_eq (nat_cmp q e)) refl
  where
    by : (b : Bool) → is_eq (nat_cmp q e) ≡ b → is_eq (nat_cmp q e) ≡ false
    by true t = absurd (ne (same_is q e t))
    by false t = t

pub is_same : (e : ℕ) → is_eq (nat_cmp e e) ≡ true
is_same e = grind (arith, nat_tests)

module _ {X : Type 0} where
  pub found_changed : (e : ℕ) (x y : X) (room : List (ℕ × X)) → found e room ≡ Some y → found e (changed e x room) ≡ Some x
  found_changed e x y [] h = cc
  found_changed e x y (p ∷ room) h = by (is_eq (nat_cmp e p.0)) refl (found_changed e x y room) h
    where
      by : (b : Bool) → is_eq (nat_cmp e p.0) ≡ b → (found e room ≡ Some y → found e (changed e x room) ≡ Some x)
          → cond b (Some p.1) (found e room) ≡ Some y → found e (cond b ((p.0, x) ∷ room) (p ∷ changed e x room)) ≡ Some x
      by true t later k = rw t refl
      by false t later k = rw t (later k)

  pub changed_other : (q e : ℕ) (x : X) (room : List (ℕ × X)) → q ≢ e → found q (changed e x room) ≡ found q room
  changed_other q e x [] ne = refl
  changed_other q e x (p ∷ room) ne = by (is_eq (nat_cmp e p.0)) refl (changed_other q e x room ne)
    where
      by : (b : Bool) → is_eq (nat_cmp e p.0) ≡ b → found q (changed e x room) ≡ found q room → found q (cond b ((p.0, x) ∷ room) (p ∷ changed e x room)) ≡ found q (p ∷ room)
      by true t later =
          let s : e ≡ p.0 = same_is e p.0 t in
          let d : is_eq (nat_cmp q p.0) ≡ false = differs q p.0 (λ k. ne (k ∙ sym s)) in
          rw d refl
      by false t later = ap (λ (v : Option X). cond (is_eq (nat_cmp q p.0)) (Some p.1) v) later

  pub without_other : (q e : ℕ) (room : List (ℕ × X)) → q ≢ e → found q (without e room) ≡ found q room
  without_other q e [] ne = refl
  without_other q e (p ∷ room) ne = by (is_eq (nat_cmp e p.0)) refl (without_other q e room ne)
    where
      by : (b : Bool) → is_eq (nat_cmp e p.0) ≡ b → found q (without e room) ≡ found q room → found q (cond b room (p ∷ without e room)) ≡ found q (p ∷ room)
      by true t later =
          let s : e ≡ p.0 = same_is e p.0 t in
          let d : is_eq (nat_cmp q p.0) ≡ false = differs q p.0 (λ k. ne (k ∙ sym s)) in
          rw d refl
      by false t later = ap (λ (v : Option X). cond (is_eq (nat_cmp q p.0)) (Some p.1) v) later

  pub joined_other : (q e : ℕ) (x : X) (room : List (ℕ × X)) → q ≢ e → found q (joined e x room) ≡ found q room
  joined_other q e x [] ne = rw (differs q e ne) refl
  joined_other q e x (p ∷ room) ne = by (nat_cmp e p.0) refl (joined_other q e x room ne)
    where
      by : (r : Ordering) → nat_cmp e p.0 ≡ r → found q (joined e x room) ≡ found q room
          → found q (match_ordering r ((e, x) ∷ p ∷ room) ((p.0, x) ∷ room) (p ∷ insert_entry nat_cmp room e x)) ≡ found q (p ∷ room)
      by Less t later = rw (differs q e ne) refl
      by Equal t later =
          let s : e ≡ p.0 = exact_unsigned e p.0 t in
          let d : is_eq (nat_cmp q p.0) ≡ false = differs q p.0 (λ k. ne (k ∙ sym s)) in
          rw d refl
      by Greater t later = ap (λ (v : Option X). cond (is_eq (nat_cmp q p.0)) (Some p.1) v) later

  -- what holds of each value holds of one that is found
  pub of_found : (P : X → Type 0) (e : ℕ) (x : X) (room : List (ℕ × X)) → All P (values_of room) → found e room ≡ Some x → P x
  of_found P e x room all at = by (found e room) at (IfSome-lookup_from_All P (is_at (nat_cmp e)) room all)
    where
      by : (o : Option X) → o ≡ Some x → IfSome o P → P x
      by None h p = cc
      by (Some y) h p = let s : y ≡ x = cc in subst P s p

  -- what holds of each entry of a room still does
  module _ (P : ℕ × X → Type 0) where
    pub places_changed : (e : ℕ) (x : X) (room : List (ℕ × X)) → All P room → ((k : ℕ) → e ≡ k → P (k, x)) → All P (changed e x room)
    places_changed e x [] all new = all
    places_changed e x (p ∷ room) all new = by (is_eq (nat_cmp e p.0)) refl (places_changed e x room (All-tail P p room all) new)
      where
        by : (b : Bool) → is_eq (nat_cmp e p.0) ≡ b → All P (changed e x room) → All P (cond b ((p.0, x) ∷ room) (p ∷ changed e x room))
        by true t later = All-cons P (p.0, x) room (new p.0 (same_is e p.0 t)) (All-tail P p room all)
        by false t later = All-cons P p (changed e x room) (All-head P p room all) later

    pub places_joined : (e : ℕ) (x : X) (room : List (ℕ × X)) → All P room → ((k : ℕ) → e ≡ k → P (k, x)) → All P (joined e x room)
    places_joined e x [] all new = All-cons P (e, x) [] (new e refl) all
    places_joined e x (p ∷ room) all new = by (nat_cmp e p.0) refl (places_joined e x room (All-tail P p room all) new)
      where
        by : (r : Ordering) → nat_cmp e p.0 ≡ r → All P (joined e x room) → All P (match_ordering r ((e, x) ∷ p ∷ room) ((p.0, x) ∷ room) (p ∷ insert_entry nat_cmp room e x))
        by Less t later = All-cons P (e, x) (p ∷ room) (new e refl) all
        by Equal t later = All-cons P (p.0, x) room (new p.0 (exact_unsigned e p.0 t)) (All-tail P p room all)
        by Greater t later = All-cons P p (insert_entry nat_cmp room e x) (All-head P p room all) later

    pub places_without : (e : ℕ) (room : List (ℕ × X)) → All P room → All P (without e room)
    places_without e [] all = all
    places_without e (p ∷ room) all = by (is_eq (nat_cmp e p.0)) refl (places_without e room (All-tail P p room all))
      where
        by : (b : Bool) → is_eq (nat_cmp e p.0) ≡ b → All P (without e room) → All P (cond b room (p ∷ without e room))
        by true t later = All-tail P p room all
        by false t later = All-cons P p (without e room) (All-head P p room all) later

-- each element is beside its own index
abbrev pub AreKeyed : {C : Type 0} → List (ℕ × ElementView C) → Type 0
AreKeyed {C} room = All (λ (place : ℕ × ElementView C). place.1.index ≡ place.0) room

module _ {C : Type 0} where
  abbrev pub Key : ℕ × ElementView C → Type 0
  Key place = place.1.index ≡ place.0

  pub found_index : (e : ℕ) (el : ElementView C) (room : List (ℕ × ElementView C)) → AreKeyed room → found e room ≡ Some el → el.index ≡ e
  found_index e el [] keyed at = cc
  found_index e el (p ∷ room) keyed at = by (is_eq (nat_cmp e p.0)) refl (found_index e el room (All-tail Key p room keyed)) at
    where
      by : (b : Bool) → is_eq (nat_cmp e p.0) ≡ b → (found e room ≡ Some el → el.index ≡ e) → cond b (Some p.1) (found e room) ≡ Some el → el.index ≡ e
      by true t later k =
          let s : p.1 ≡ el = cc in
          let i : p.1.index ≡ p.0 = All-head Key p room keyed in
          ap (λ (v : ElementView C). v.index) (sym s) ∙ (i ∙ sym (same_is e p.0 t))
      by false t later k = later k
