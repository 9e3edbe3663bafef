-- What holds of each member of a list at its index, of the PEs of an opening, and of its queues.
use Rattle.std.proofs.Common.{◌≡◌, ◌≢◌, ℕ, zero, suc, ◌+◌, List, [], ◌∷◌, length, map, Option, Some, None, Bool, true, false, arith, refl, sym, ◌∙◌, ap, subst, replicate}
use Rattle.std.specs.Prelude.{All, nat_eq, slice_get, slice_set, slice_index_or}
use Rattle.std.specs.List.{range_with_len}
use Rattle.std.proofs.lemmas.Bool.Decides.{nat_tests}
use Rattle.std.proofs.lemmas.List.FromFn.{length-map-range_with_len}
use Rattle.std.proofs.lemmas.Option.{slice_get-get_or}
use Rattle.pe_state.specs.Pes.{PeView, new_pe, placed}
use Rattle.rts_core.specs.Worlds.{home, placed_on, all_placed}
use Rattle.rts_core.proofs.WorldSteps.{get_set_same, get_set_other}
use Rattle.event_laws.proofs.OpeningSites.{placed_length}

module _ {X : Type 0} where
  -- of each where it holds of a new one, and of each other
  pub each_other : (P : ℕ → X → Type 0) (xs : List X) (i : ℕ) (x y : X) → slice_get xs i ≡ Some x
      → ((j : ℕ) (z : X) → j ≢ i → slice_get xs j ≡ Some z → P j z) → P i y → (j : ℕ) (z : X) → slice_get (slice_set xs i y) j ≡ Some z → P j z
  each_other P xs i x y at all new j z h = by (nat_eq j i) refl
    where
      by : (b : Bool) → nat_eq j i ≡ b → P j z
      by true t =
          let e : j ≡ i = grind (arith, nat_tests) in
          let here : slice_get (slice_set xs i y) i ≡ Some y = get_set_same xs i x y at in
          let there : slice_get (slice_set xs i y) i ≡ Some z = subst (λ (v : ℕ). slice_get (slice_set xs i y) v ≡ Some z) e h in
          let s : y ≡ z = cc in
          subst (λ (v : ℕ). P v z) (sym e) (subst (P i) s new)
      by false t =
          let e : j ≢ i = grind (arith, nat_tests) in
          all j z e (sym (get_set_other xs i j y e) ∙ h)

  pub each_at : (P : ℕ → X → Type 0) (xs : List X) (i : ℕ) (x y : X) → slice_get xs i ≡ Some x
      → ((j : ℕ) (z : X) → slice_get xs j ≡ Some z → P j z) → P i y → (j : ℕ) (z : X) → slice_get (slice_set xs i y) j ≡ Some z → P j z
  each_at P xs i x y at all new = each_other P xs i x y at (λ j z other. all j z) new

  -- of all, where it does not depend on the index
  pub from_each : (P : X → Type 0) (xs : List X) → ((i : ℕ) (x : X) → slice_get xs i ≡ Some x → P x) → All P xs
  from_each P xs h = λ i d lt. h i (slice_index_or xs i d) (slice_get-get_or xs i d lt)

-- of each PE as a run of n elements opens, where it holds of a new one, and still after an element was placed on its home
module _ {C : Type 0} (n pes : ℕ) (P : ℕ → PeView C → Type 0) (new : (me : ℕ) → P me (new_pe me n))
    (place : (e : ℕ) (chare : C) (pe : PeView C) → P (home e n pes) pe → P (home e n pes) (placed pe e chare)) where
  abbrev Each : List (PeView C) → Type 0
  Each xs = (p : ℕ) (pe : PeView C) → slice_get xs p ≡ Some pe → P p pe

  each_new : (a count p : ℕ) (pe : PeView C) → slice_get (map (λ i. new_pe i n) (range_with_len a count)) p ≡ Some pe → P (a + p) pe
  each_new a zero p pe h = cc
  each_new a (suc count) zero pe h =
      let s : new_pe {C = C} a n ≡ pe = cc in
      let same : a ≡ a + zero = omega arith in
      subst (λ (v : ℕ). P v pe) same (subst (P a) s (new a))
  each_new a (suc count) (suc p) pe h =
      let same : (a + 1) + p ≡ a + suc p = omega arith in
      subst (λ (v : ℕ). P v pe) same (each_new (a + 1) count p pe h)

  one_placed : (xs : List (PeView C)) (e : ℕ) (chare : C) (o : Option (PeView C)) → slice_get xs (home e n pes) ≡ o → Each xs → Each (placed_on xs (home e n pes) e chare o)
  one_placed xs e chare None at h = h
  one_placed xs e chare (Some pe) at h = each_at P xs (home e n pes) pe (placed pe e chare) at h (place e chare pe (h (home e n pes) pe at))

  each_placed : (xs : List (PeView C)) (e : ℕ) (chares : List C) → length xs ≡ pes → Each xs → Each (all_placed n xs e chares)
  each_placed xs e [] len h = h
  each_placed xs e (chare ∷ chares) len h =
      let q : ℕ = home e n (length xs) in
      let same : home e n pes ≡ q = ap (home e n) (sym len) in
      each_placed (placed_on xs q e chare (slice_get xs q)) (e + 1) chares (placed_length xs q e chare (slice_get xs q) ∙ len)
      (subst (λ (v : ℕ). Each (placed_on xs v e chare (slice_get xs v))) same (one_placed xs e chare (slice_get xs (home e n pes)) refl h))

  pub each_opens : (chares : List C) → Each (all_placed n (map (λ i. new_pe i n) (range_with_len 0 pes)) 0 chares)
  each_opens chares =
      each_placed (map (λ i. new_pe i n) (range_with_len 0 pes)) 0 chares (length-map-range_with_len (λ i. new_pe {C = C} i n) 0 pes)
      (λ p pe at. let same : 0 + p ≡ p = omega arith in subst (λ (v : ℕ). P v pe) same (each_new 0 pes p pe at))

-- of each queue of an opening, which is empty
pub none_queued : {X : Type 0} (P : List X → Type 0) → P [] → (count q : ℕ) (queue : List X) → slice_get (replicate count []) q ≡ Some queue → P queue
none_queued P none zero q queue h = cc
none_queued P none (suc count) zero queue h = let s : [] ≡ queue = cc in subst P s none
none_queued P none (suc count) (suc q) queue h = none_queued P none count q queue h
