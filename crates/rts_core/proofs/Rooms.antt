-- What holds of each element of a room, and of its index.
use Rattle.std.proofs.Common.{◌≡◌, ℕ, List, [], ◌∷◌, Option, Some, cond, refl, sym, subst}
use Rattle.std.specs.Prelude.{All, IfSome, slice_get}
use Rattle.std.specs.BTreeMap.{is_at}
use Rattle.std.specs.Map.{values_of}
use Rattle.std.specs.Ordering.{nat_cmp, is_eq, match_ordering}
use Rattle.std.specs.declared.cmp.Ordering.{Ordering}
use Rattle.std.specs.declared.cmp.Ordering.TheVariants.{Less, Equal, Greater}
use Rattle.std.proofs.lemmas.List.Elements.{All-nil, All-cons}
use Rattle.std.proofs.lemmas.Map.Views.{IfSome-lookup_from_All}
use Rattle.std.proofs.lemmas.Map.Lookups.{exact_unsigned}
use Rattle.rts_core.proofs.Histories.{one_of_all}
use Rattle.pe_state.specs.Rooms.{found, changed, joined, without}

module _ {X : Type 0} (P : ℕ → X → Type 0) where
  abbrev pub EachAt : List (ℕ × X) → Type 0
  EachAt [] = Unit {0}
  EachAt (y ∷ room) = P y.0 y.1 × EachAt room

  pub each_found : (e : ℕ) (room : List (ℕ × X)) (x : X) → EachAt room → found e room ≡ Some x → P e x
  each_found e [] x all h = cc
  each_found e (y ∷ room) x all h = by (nat_cmp e y.0) refl h (each_found e room x all.1)
    where
      by : (r : Ordering) → nat_cmp e y.0 ≡ r → cond (is_eq r) (Some y.1) (found e room) ≡ Some x → (found e room ≡ Some x → P e x) → P e x
      by Less m k later = later k
      by Equal m k later =
          let same : e ≡ y.0 = exact_unsigned e y.0 m in
          let it : y.1 ≡ x = cc in
          subst (λ (v : X). P e v) it (subst (λ (i : ℕ). P i y.1) (sym same) all.0)
      by Greater m k later = later k

  pub each_changed : (e : ℕ) (x : X) (room : List (ℕ × X)) → P e x → EachAt room → EachAt (changed e x room)
  each_changed e x [] p all = tt
  each_changed e x (y ∷ room) p all = by (nat_cmp e y.0) refl (each_changed e x room p all.1)
    where
      by : (r : Ordering) → nat_cmp e y.0 ≡ r → EachAt (changed e x room) → EachAt (cond (is_eq r) ((y.0, x) ∷ room) (y ∷ changed e x room))
      by Less m later = (all.0, later)
      by Equal m later = let same : e ≡ y.0 = exact_unsigned e y.0 m in (subst (λ (i : ℕ). P i x) same p, all.1)
      by Greater m later = (all.0, later)

  pub each_joined : (e : ℕ) (x : X) (room : List (ℕ × X)) → P e x → EachAt room → EachAt (joined e x room)
  each_joined e x [] p all = (p, tt)
  each_joined e x (y ∷ room) p all = by (nat_cmp e y.0) refl (each_joined e x room p all.1)
    where
      by : (r : Ordering) → nat_cmp e y.0 ≡ r → EachAt (joined e x room) → EachAt (match_ordering r ((e, x) ∷ y ∷ room) ((y.0, x) ∷ room) (y ∷ joined e x room))
      by Less m later = (p, all)
      by Equal m later = let same : e ≡ y.0 = exact_unsigned e y.0 m in (subst (λ (i : ℕ). P i x) same p, all.1)
      by Greater m later = (all.0, later)

  pub each_without : (e : ℕ) (room : List (ℕ × X)) → EachAt room → EachAt (without e room)
  each_without e [] all = tt
  each_without e (y ∷ room) all = by (nat_cmp e y.0) (each_without e room all.1)
    where
      by : (r : Ordering) → EachAt (without e room) → EachAt (cond (is_eq r) room (y ∷ without e room))
      by Less later = (all.0, later)
      by Equal later = all.1
      by Greater later = (all.0, later)

  -- what follows of each holds of all of them
  pub each_value : (Q : X → Type 0) → ((e : ℕ) (x : X) → P e x → Q x) → (room : List (ℕ × X)) → EachAt room → All Q (values_of room)
  each_value Q k [] all = All-nil Q
  each_value Q k (y ∷ room) all = All-cons Q y.1 (values_of room) (k y.0 y.1 all.0) (each_value Q k room all.1)

-- what holds of each of a list holds of the one at an index, and what holds of each element of a room holds of the
-- one that is found
module _ {X : Type 0} (P : X → Type 0) where
  pub at_place : (xs : List X) (i : ℕ) (x : X) → All P xs → slice_get xs i ≡ Some x → P x
  at_place xs i x all at = subst (λ (v : Option X). IfSome v P) at (one_of_all P xs i all)

  pub in_room : (room : List (ℕ × X)) (e : ℕ) (x : X) → All P (values_of room) → found e room ≡ Some x → P x
  in_room room e x all at = subst (λ (v : Option X). IfSome v P) at (IfSome-lookup_from_All P (is_at (nat_cmp e)) room all)
