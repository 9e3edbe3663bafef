-- No PE has posted fewer letters than as the run began.
use Rattle.std.proofs.Common.{◌≡◌, ℕ, zero, suc, ◌+◌, ◌<◌, ◌≤◌, List, [], ◌∷◌, length, map, arith, ap, subst, inl, inr}
use Rattle.std.specs.Prelude.{All, slice_get}
use Rattle.std.specs.List.{range_with_len}
use Rattle.std.specs.Option.{option_map_or}
use Rattle.std.proofs.lemmas.Bool.{cases_lt}
use Rattle.std.proofs.lemmas.List.Elements.{All-head, All-tail}
use Rattle.std.proofs.lemmas.Option.{slice_get_past}
use Rattle.pe_state.specs.Pes.{PeView}
use Rattle.run_account.specs.Gathering.{CountOn, count_before}

module _ {C : Type 0} (starts : List (PeView C)) where
  -- of PEs that are in order, from this number on
  counts_from : (a : ℕ) (ends : List (PeView C)) → map (λ pe. pe.me) ends ≡ range_with_len a (length ends)
      → All (λ pe. count_before starts pe.me ≤ pe.count) ends → (k : ℕ) → k < length ends → count_before starts (a + k) ≤ count_before ends k
  counts_from a [] order h k within = absurd (omega (arith, within))
  counts_from a (pe ∷ ends) order h zero within =
      let here : pe.me ≡ a + zero = let first : pe.me ≡ a = cc in omega (arith, first) in
      subst (λ (v : ℕ). count_before starts v ≤ pe.count) here (All-head (λ (x : PeView C). count_before starts x.me ≤ x.count) pe ends h)
  counts_from a (pe ∷ ends) order h (suc k) within =
      let rest : map (λ (x : PeView C). x.me) ends ≡ range_with_len (a + 1) (length ends) = cc in
      let e : (a + 1) + k ≡ a + suc k = omega arith in
      subst (λ (v : ℕ). count_before starts v ≤ count_before ends k) e
      (counts_from (a + 1) ends rest (All-tail (λ (x : PeView C). count_before starts x.me ≤ x.count) pe ends h) k (omega (arith, within)))

  -- and beyond them there is none
  pub counts_on : (ends : List (PeView C)) → map (λ pe. pe.me) ends ≡ range_with_len 0 (length ends) → length ends ≡ length starts
      → All (λ pe. count_before starts pe.me ≤ pe.count) ends → CountOn starts ends
  counts_on ends order same h = λ q. elim (cases_lt q (length ends)) [
    | inl within ↦
        let e : 0 + q ≡ q = omega arith in
        subst (λ (v : ℕ). count_before starts v ≤ count_before ends q) e (counts_from 0 ends order h q within)
    | inr past ↦
        let none = slice_get_past starts q (omega (arith, past, same)) in
        let nothing = ap (λ o. option_map_or (λ (pe : PeView C). pe.count) o 0) none in
        omega (arith, nothing)
  ]
