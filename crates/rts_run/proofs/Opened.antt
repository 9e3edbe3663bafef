-- The PEs of an opening are those that workers may begin with.
use Rattle.std.proofs.Common.{◌≡◌, ◌∙◌, ℕ, suc, ◌+◌, ◌≤◌, List, [], ◌∷◌, length, map, Some, arith, ap, refl}
use Rattle.std.specs.Prelude.{slice_get}
use Rattle.std.specs.List.{range_with_len}
use Rattle.sync_board.specs.declared.strategy.Strategy.TheVariants.{Least}
use Rattle.rts_core.specs.Worlds.{opening_pes}
use Rattle.rts_core.proofs.OpeningWeights.{opening_numbered}

-- each at its own place
in_places : {X : Type 0} (f : X → ℕ) (a : ℕ) (xs : List X) → ((i : ℕ) (x : X) → slice_get xs i ≡ Some x → f x ≡ a + i) → map f xs ≡ range_with_len a (length xs)
in_places f a [] h = refl
in_places f a (x ∷ xs) h =
    let b : f x ≡ a = omega (arith, h 0 x refl) in
    let c = in_places f (a + 1) xs (λ i y at. let k = h (suc i) y at in omega (arith, k)) in
    ap (λ (v : ℕ). v ∷ map f xs) b ∙ ap (λ (v : List ℕ). a ∷ v) c

-- the PEs of an opening are in order
pub opens_in_order : {C : Type 0} (pes : ℕ) (chares : List C) → 1 ≤ pes → map (λ pe. pe.me) (opening_pes pes chares) ≡ range_with_len 0 (length (opening_pes pes chares))
opens_in_order {C} pes chares some = in_places (λ pe. pe.me) 0 (opening_pes pes chares)
    (λ i pe at. let k = opening_numbered (Unit {0}) pes chares Least some i pe at in omega (arith, k))
