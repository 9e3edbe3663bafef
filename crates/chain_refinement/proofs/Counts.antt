-- The number of different numbers in a list; and a naming has each of its numbers.
use Rattle.std.proofs.Common.{◌≡◌, ◌≢◌, ℕ, ◌<◌, ◌≤◌, eqb, eqb-true, inl, inr, List, [], ◌∷◌, ◌++◌, length, slice_index, arith, sym, ◌∙◌}
use Rattle.std.proofs.lemmas.Bool.{both_ways, cases_lt, cases_Bool, eq-eqb}
use Rattle.std.proofs.lemmas.Bool.Decides.{Decides-eqb}
use Rattle.std.proofs.lemmas.List.{get_or_append_left, get_or_default, get_or_push, length_push}
use Rattle.std.proofs.lemmas.List.Folds.{list_any_at, Any-from_list_any}
use Rattle.std.proofs.lemmas.Map.Made.{IsDistinct-from_AllPairs}
use Rattle.std.proofs.lemmas.Map.Steps.{length-le_from_distinct_below, le-length_from_below}
use Rattle.std.specs.List.{list_any, AllPairs, Contains}
use Rattle.lb_certificates.specs.Naming.{IsNaming}

-- a list that has each number below a bound has at least as many numbers as the bound
pub covers : (names : List ℕ) (n : ℕ) → ((q : ℕ) → q < n → Contains names q) → n ≤ length names
covers names n held =
    le-length_from_below names n (λ q inside.
    let found = held q inside in
    list_any_at (eqb q) names found.0 q found.1 (eq-eqb q _ (sym found.2)))

-- there are no more different numbers below a bound than the bound
pub few : (names : List ℕ) (n : ℕ) → ((b : ℕ) → b < length names → slice_index names b < n)
    → ((a b : ℕ) → a < b → b < length names → slice_index names a ≢ slice_index names b) → length names ≤ n
few names n below apart =
    let pairs : AllPairs (λ x y. x ≢ y) names = λ i j d before inside same. apart i j before inside
    (get_or_default names i 0 d (omega arith) ∙ same ∙ get_or_default names j d 0 inside) in
    length-le_from_distinct_below names n (IsDistinct-from_AllPairs Decides-eqb names pairs) (λ q found.
    let at = Any-from_list_any (eqb q) names found in
    let same : q ≡ at.1 = eqb-true q at.1 at.4 in
    omega (arith, same, at.3, get_or_default names at.0 0 at.1 at.2, below at.0 at.2))

-- a naming has each PE
pub held : (n : ℕ) (names : List ℕ) (p : ℕ) → IsNaming n names → p < n → (b : ℕ) × (b < n) × (slice_index names b ≡ p)
held n names p naming inside =
    elim (cases_Bool (list_any (eqb p) names)) [
      | inl is_there ↦
          let at = Any-from_list_any (eqb p) names is_there in
          (at.0, omega (arith, at.2, naming.counted), get_or_default names at.0 0 at.1 at.2 ∙ at.3 ∙ sym (eqb-true p at.1 at.4))
      | inr is_new ↦
          let counted = length_push names p in
          let new : (b : ℕ) → b < length names → slice_index names b ≢ p = λ b below same. absurd
          (both_ways (list_any (eqb p) names) is_new (list_any_at (eqb p) names b 0 below (eq-eqb p (slice_index names b) (sym same)))) in
          let old_is : (b : ℕ) → b < length names → slice_index (names ++ p ∷ []) b ≡ slice_index names b = λ b below. get_or_append_left names (p ∷ []) 0 b below in
          let new_is : (b : ℕ) → b ≡ length names → slice_index (names ++ p ∷ []) b ≡ p = λ b last. get_or_push names p 0 b (sym last) in
          let more : length (names ++ p ∷ []) ≤ n = few (names ++ p ∷ []) n
          (λ b within. elim (cases_lt b (length names)) [
            | inl old ↦ omega (arith, old_is b old, naming.below b (omega (arith, naming.counted)))
            | inr last ↦ omega (arith, new_is b (omega (arith, counted)))
          ])
          (λ a b before within. elim (cases_lt b (length names)) [
            | inl old ↦ λ same. naming.apart a b before (omega (arith, naming.counted)) (sym (old_is a (omega arith)) ∙ same ∙ old_is b old)
            | inr last ↦ λ same. new a (omega (arith, counted)) (sym (old_is a (omega (arith, counted))) ∙ same ∙ new_is b (omega (arith, counted)))
          ]) in
          absurd (omega (arith, more, counted, naming.counted))
    ]
