-- The PEs on which chares were placed, each on the PE that is given for it: each element once, and no letter.
use Rattle.std.proofs.Common.{◌≡◌, ◌∙◌, ℕ, ◌+◌, ◌<◌, List, [], ◌∷◌, ◌++◌, length, map, sum_by, arith, refl, sym, ap, subst, zero-add}
use Rattle.std.specs.Prelude.{All, slice_get}
use Rattle.std.specs.List.{range_with_len}
use Rattle.std.proofs.lemmas.List.Elements.{All-head, All-tail}
use Rattle.std.proofs.lemmas.List.FromFn.{length-map-range_with_len}
use Rattle.std.proofs.lemmas.List.Sums.{sum_by-cons}
use Rattle.pe_state.specs.Pes.{PeView, new_pe}
use Rattle.rts_core.specs.Places.{Life}
use Rattle.rts_core.specs.Worlds.{placed_on}
use Rattle.rts_core.proofs.Listings.{no_letter, no_life}
use Rattle.rts_core.proofs.OpeningWeights.{AllOpen, Opens, new_open, new_weigh, opened_lives, placed_length, placed_open, placed_weighs}
use Rattle.rts_core.proofs.Weights.{Weight, of_pe}
use Rattle.placed_runs.specs.Placed.{each_placed, placed_pes}

module _ {C : Type 0} where
  pub told_length : (pes : List (PeView C)) (e : ℕ) (chares : List C) (places : List ℕ) → length (each_placed pes e chares places) ≡ length pes
  told_length pes e [] places = refl
  told_length pes e (chare ∷ chares) [] = refl
  told_length pes e (chare ∷ chares) (q ∷ places) =
      told_length (placed_on pes q e chare (slice_get pes q)) (e + 1) chares places ∙ placed_length no_letter no_life pes q e chare (slice_get pes q)

  pub told_open : (n : ℕ) (pes : List (PeView C)) (e : ℕ) (chares : List C) (places : List ℕ) → length places ≡ length chares → AllOpen n e pes
      → AllOpen n (e + length chares) (each_placed pes e chares places)
  told_open n pes e [] places same h = subst (λ (v : ℕ). AllOpen n v pes) (let k : e ≡ e + length {A = C} [] = omega arith in k) h
  told_open n pes e (chare ∷ chares) [] same h = absurd (omega (arith, same))
  told_open n pes e (chare ∷ chares) (q ∷ places) same h =
      let next : List (PeView C) = placed_on pes q e chare (slice_get pes q) in
      let k : (e + 1) + length chares ≡ e + length (chare ∷ chares) = omega arith in
      subst (λ (v : ℕ). AllOpen n v (each_placed next (e + 1) chares places)) k
      (told_open n next (e + 1) chares places (omega (arith, same)) (placed_open n e pes q chare (slice_get pes q) refl h))

  pub told_weighs : (g : Weight) (k : Life → ℕ) (n m : ℕ) (pes : List (PeView C)) (e : ℕ) (chares : List C) (places : List ℕ) → length pes ≡ m
      → length places ≡ length chares → All (λ q. q < m) places → AllOpen n e pes
      → sum_by (of_pe g k) (each_placed pes e chares places) ≡ sum_by (of_pe g k) pes + sum_by k (opened_lives e chares)
  told_weighs g k n m pes e [] places len same named h = let z : sum_by k (opened_lives {C = C} e []) ≡ 0 = refl in omega (arith, z)
  told_weighs g k n m pes e (chare ∷ chares) [] len same named h = absurd (omega (arith, same))
  told_weighs g k n m pes e (chare ∷ chares) (q ∷ places) len same named h =
      let next : List (PeView C) = placed_on pes q e chare (slice_get pes q) in
      let below : q < m = All-head (λ i. i < m) q places named in
      let lt : q < length pes = omega (arith, below, len) in
      let a = placed_weighs g k n e pes q chare (slice_get pes q) refl lt h in
      let b = told_weighs g k n m next (e + 1) chares places (placed_length g k pes q e chare (slice_get pes q) ∙ len) (omega (arith, same))
      (All-tail (λ i. i < m) q places named) (placed_open n e pes q chare (slice_get pes q) refl h) in
      let c : sum_by k ((e, []) ∷ opened_lives (e + 1) chares) ≡ k (e, []) + sum_by k (opened_lives (e + 1) chares) = sum_by-cons k (e, []) (opened_lives (e + 1) chares) in
      omega (arith, a, b, c)

  module _ (pes : ℕ) (places : List ℕ) (chares : List C) where
    abbrev pub bare : List (PeView C)
    bare = map (λ q. new_pe q (length chares)) (range_with_len 0 pes)

    pub bare_length : length bare ≡ pes
    bare_length = length-map-range_with_len (λ q. new_pe {C = C} q (length chares)) 0 pes

    bare_open : AllOpen (length chares) 0 bare
    bare_open q pe at = subst (λ (v : ℕ). Opens (length chares) 0 v pe) (zero-add q) (new_open (length chares) 0 pes q pe at)

    pub placed_counted : length (placed_pes pes places chares) ≡ pes
    placed_counted = told_length bare 0 chares places ∙ bare_length

    module _ (same : length places ≡ length chares) where
      pub states_open : AllOpen (length chares) (0 + length chares) (placed_pes pes places chares)
      states_open = told_open (length chares) bare 0 chares places same bare_open

      pub states_weigh : All (λ q. q < pes) places → (g : Weight) (k : Life → ℕ)
          → sum_by (λ (pe : PeView C). of_pe g k pe) (placed_pes pes places chares) ≡ sum_by k (opened_lives 0 chares)
      states_weigh named g k =
          let a = told_weighs g k (length chares) pes bare 0 chares places bare_length same named bare_open in
          let b = new_weigh C g k (length chares) (range_with_len 0 pes) in
          omega (arith, a, b)

-- ---- as they are placed one by one

-- one more chare is placed
pub placed_next : {C : Type 0} (pes pes' : List (PeView C)) (e i q : ℕ) (chare : C) (left left' : List C) (told told' : List ℕ) (last : List (PeView C))
    → i ≡ e → left ≡ chare ∷ left' → told ≡ q ∷ told' → pes' ≡ placed_on pes q i chare (slice_get pes q)
    → each_placed pes e left told ≡ last → each_placed pes' (e + 1) left' told' ≡ last
placed_next pes pes' e i q chare left left' told told' last same items places placed inv = rw (placed, same) (rw (items, places) at inv)

-- ---- as their ends are taken one by one

-- one more end is taken
pub moved_next : {X : Type 0} (made more left left' all : List X) (x y : X) → more ≡ made ++ y ∷ [] → y ≡ x → left ≡ x ∷ left' → made ++ left ≡ all → more ++ left' ≡ all
moved_next {X} made more left left' all x y m same taken is =
    ap (λ (v : List X). v ++ left') (m ∙ ap (λ (v : X). made ++ v ∷ []) same) ∙ (joined made left' x ∙ (ap (λ (v : List X). made ++ v) (sym taken) ∙ is))
  where
    joined : (xs ys : List X) (z : X) → (xs ++ z ∷ []) ++ ys ≡ xs ++ z ∷ ys
    joined [] ys z = refl
    joined (w ∷ xs) ys z = ap (λ (v : List X). w ∷ v) (joined xs ys z)

-- all are
pub moved_all : {X : Type 0} (made left all : List X) → left ≡ [] → made ++ left ≡ all → made ≡ all
moved_all {X} made left all none is = sym (none_more made) ∙ (ap (λ (v : List X). made ++ v) (sym none) ∙ is)
  where
    none_more : (xs : List X) → xs ++ [] ≡ xs
    none_more [] = refl
    none_more (x ∷ xs) = ap (λ (v : List X). x ∷ v) (none_more xs)
