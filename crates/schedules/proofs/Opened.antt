-- How many PEs and elements an opening has.
use Rattle.std.proofs.Common.{◌≡◌, ◌∙◌, ℕ, ◌+◌, ◌≤◌, List, [], ◌∷◌, length, map, Option, None, Some, refl, ap, subst, sym}
use Rattle.std.specs.List.{range_with_len}
use Rattle.std.specs.Prelude.{slice_get}
use Rattle.std.proofs.lemmas.List.{length-set}
use Rattle.std.proofs.lemmas.List.FromFn.{length-map-range_with_len}
use Rattle.sync_board.specs.declared.strategy.Strategy.{Strategy}
use Rattle.pe_state.specs.Pes.{PeView, new_pe, placed}
use Rattle.rts_core.specs.Worlds.{WorldView, all_placed, home, opening_pes, opening_world, placed_on}

module _ {C : Type 0} where
  one_placed : (pes : List (PeView C)) (q e : ℕ) (chare : C) (o : Option (PeView C)) → length (placed_on pes q e chare o) ≡ length pes
  one_placed pes q e chare None = refl
  one_placed pes q e chare (Some pe) = length-set {A = PeView C} pes q (placed pe e chare)

  still_all : (n : ℕ) (pes : List (PeView C)) (e : ℕ) (chares : List C) → length (all_placed n pes e chares) ≡ length pes
  still_all n pes e [] = refl
  still_all n pes e (chare ∷ chares) =
      let q = home e n (length pes) in
      still_all n (placed_on pes q e chare (slice_get pes q)) (e + 1) chares ∙ one_placed pes q e chare (slice_get pes q)

  all_open : (pes : ℕ) (chares : List C) → length (opening_pes pes chares) ≡ pes
  all_open pes chares =
      still_all (length chares) (map (λ q. new_pe q (length chares)) (range_with_len 0 pes)) 0 chares
      ∙ length-map-range_with_len (λ (q : ℕ). new_pe {C = C} q (length chares)) 0 pes

module _ {C A : Type 0} (pes : ℕ) (chares : List C) (strategy : Strategy) (w : WorldView C A) (opens : w ≡ opening_world pes chares strategy) where
  pub open_pes : (most : ℕ) → pes ≤ most → length w.pes ≤ most
  open_pes most few = subst (λ (n : ℕ). n ≤ most) (sym (ap (λ (v : WorldView C A). length v.pes) opens ∙ all_open pes chares)) few

  pub open_words : (most : ℕ) → length chares ≤ most → length w.words ≤ most
  open_words most few =
      subst (λ (n : ℕ). n ≤ most) (sym (ap (λ (v : WorldView C A). length v.words) opens ∙ length-map-range_with_len (λ (e : ℕ). home e (length chares) pes) 0 (length chares))) few
