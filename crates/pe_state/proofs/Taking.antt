-- A room from which an element is taken that does not stand there is the same room.
use Rattle.std.proofs.Common.{◌≡◌, ℕ, ◌≤◌, List, [], ◌∷◌, length, Some, None, Bool, true, false, refl, ap}
use Rattle.std.specs.Prelude.{cond}
use Rattle.std.specs.Ordering.{nat_cmp, is_eq}
use Rattle.chares.specs.Elements.{ElementView}
use Rattle.pe_state.specs.Rooms.{found, without}
use Rattle.pe_state.specs.Rows.{row_of, entries_of, IsRoom}
use Rattle.pe_state.proofs.Edits.{found_nowhere}

module _ {X : Type 0} where
  pub without_none : (e : ℕ) (xs : List (ℕ × X)) → found e xs ≡ None → without e xs ≡ xs
  without_none e [] none = refl
  without_none e (p ∷ xs) none = by (is_eq (nat_cmp e p.0)) none (λ n. without_none e xs n)
    where
      by : (b : Bool) → cond b (Some p.1) (found e xs) ≡ None → (found e xs ≡ None → without e xs ≡ xs) → cond b xs (p ∷ without e xs) ≡ p ∷ xs
      by true n later = absurd (let h = n in cc)
      by false n later = ap (λ (ys : List (ℕ × X)). p ∷ ys) (later n)

module _ {C : Type 0} where
  -- an index past the last row
  pub without_nowhere : (rows : List (List (ℕ × ElementView C))) (i e : ℕ) → IsRoom rows → length rows ≤ i → i ≡ row_of e → without e (entries_of rows) ≡ entries_of rows
  without_nowhere rows i e room h at = without_none e (entries_of rows) (found_nowhere rows i e room h at)
