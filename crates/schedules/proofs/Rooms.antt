-- What is found in a room after another element of it has changed, come or gone.
use Rattle.std.proofs.Common.{◌≡◌, ◌≢◌, ℕ, List, [], ◌∷◌, Option, Some, None, Bool, true, false, refl, sym, ◌∙◌, ap}
use Rattle.std.specs.Prelude.{cond}
use Rattle.std.specs.Ordering.{nat_cmp, is_eq, match_ordering}
use Rattle.std.specs.declared.cmp.Ordering.{Ordering}
use Rattle.std.specs.declared.cmp.Ordering.TheVariants.{Less, Equal, Greater}
use Rattle.std.specs.BTreeMap.{insert_entry}
use Rattle.std.proofs.lemmas.Map.Lookups.{exact_unsigned}
use Rattle.pe_state.specs.Rooms.{found, changed, joined, without}

same_is : (q e : ℕ) → is_eq (nat_cmp q e) ≡ true → q ≡ e
same_is q e t = by (nat_cmp q e) refl t
  where
    by : (r : Ordering) → nat_cmp q e ≡ r → is_eq r ≡ true → q ≡ e
    by Less m f = cc
    by Equal m f = exact_unsigned q e m
    by Greater m f = cc

differs : (q e : ℕ) → q ≢ e → is_eq (nat_cmp q e) ≡ false
differs q e ne = by (is_eq (nat_cmp q e)) refl
  where
    by : (b : Bool) → is_eq (nat_cmp q e) ≡ b → is_eq (nat_cmp q e) ≡ false
    by true t = absurd (ne (same_is q e t))
    by false t = t

module _ {X : Type 0} where
  pub changed_other : (q e : ℕ) (x : X) (room : List (ℕ × X)) → q ≢ e → found q (changed e x room) ≡ found q room
  changed_other q e x [] ne = refl
  changed_other q e x (p ∷ room) ne = by (is_eq (nat_cmp e p.0)) refl (changed_other q e x room ne)
    where
      by : (b : Bool) → is_eq (nat_cmp e p.0) ≡ b → found q (changed e x room) ≡ found q room → found q (cond b ((p.0, x) ∷ room) (p ∷ changed e x room)) ≡ found q (p ∷ room)
      by true t later =
          let s : e ≡ p.0 = same_is e p.0 t in
          let d : is_eq (nat_cmp q p.0) ≡ false = differs q p.0 (λ k. ne (k ∙ sym s)) in
          rw d refl
      by false t later = ap (λ (v : Option X). cond (is_eq (nat_cmp q p.0)) (Some p.1) v) later

  pub without_other : (q e : ℕ) (room : List (ℕ × X)) → q ≢ e → found q (without e room) ≡ found q room
  without_other q e [] ne = refl
  without_other q e (p ∷ room) ne = by (is_eq (nat_cmp e p.0)) refl (without_other q e room ne)
    where
      by : (b : Bool) → is_eq (nat_cmp e p.0) ≡ b → found q (without e room) ≡ found q room → found q (cond b room (p ∷ without e room)) ≡ found q (p ∷ room)
      by true t later =
          let s : e ≡ p.0 = same_is e p.0 t in
          let d : is_eq (nat_cmp q p.0) ≡ false = differs q p.0 (λ k. ne (k ∙ sym s)) in
          rw d refl
      by false t later = ap (λ (v : Option X). cond (is_eq (nat_cmp q p.0)) (Some p.1) v) later

  pub joined_other : (q e : ℕ) (x : X) (room : List (ℕ × X)) → q ≢ e → found q (joined e x room) ≡ found q room
  joined_other q e x [] ne = rw (differs q e ne) refl
  joined_other q e x (p ∷ room) ne = by (nat_cmp e p.0) refl (joined_other q e x room ne)
    where
      by : (r : Ordering) → nat_cmp e p.0 ≡ r → found q (joined e x room) ≡ found q room
          → found q (match_ordering r ((e, x) ∷ p ∷ room) ((p.0, x) ∷ room) (p ∷ insert_entry nat_cmp room e x)) ≡ found q (p ∷ room)
      by Less t later = rw (differs q e ne) refl
      by Equal t later =
          let s : e ≡ p.0 = exact_unsigned e p.0 t in
          let d : is_eq (nat_cmp q p.0) ≡ false = differs q p.0 (λ k. ne (k ∙ sym s)) in
          rw d refl
      by Greater t later = ap (λ (v : Option X). cond (is_eq (nat_cmp q p.0)) (Some p.1) v) later

number : Option ℕ → ℕ
number None = 0
number (Some n) = n

-- the numbers of two options that are equal
pub same_number : (p q : ℕ) → Some p ≡ Some q → p ≡ q
unfolding number
same_number p q e = ap number e
