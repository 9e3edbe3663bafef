-- The result of `==` of two lists of pairs of numbers.
use Rattle.std.proofs.Common.{◌≡◌, ℕ, ◌==◌, Bool, List, ap, ◌∙◌}
use Rattle.std.specs.Bool.{Decides}
use Rattle.std.specs.Cmp.Lexicographic.{pointwise}
use Rattle.std.proofs.lemmas.Bool.Decides.{Decides-and, Decides-eqb}
use Rattle.std.proofs.lemmas.Slice.Eq.{slice_eq-Decides}
use Rattle.lb_snapshot.specs.Measured.{same_size}

same_pair : (a b : ℕ × ℕ) → (a.0 ≡ b.0) × (a.1 ≡ b.1) → a ≡ b
same_pair a b (first, second) = ap (λ x. (x, a.1)) first ∙ ap (λ y. (b.0, y)) second

same_parts : (a b : ℕ × ℕ) → a ≡ b → (a.0 ≡ b.0) × (a.1 ≡ b.1)
same_parts a b e = (ap (λ pair. pair.0) e, ap (λ pair. pair.1) e)

each : (a b : ℕ × ℕ) → Decides (same_size a b) (a ≡ b)
each a b = (λ e. same_pair a b (parts.0 e), λ e. parts.1 (same_parts a b e))
  where
    parts : Decides (same_size a b) ((a.0 ≡ b.0) × (a.1 ≡ b.1))
    parts = Decides-and (a.0 == b.0) (a.1 == b.1) (Decides-eqb a.0 b.0) (Decides-eqb a.1 b.1)

-- it is true exactly where they are the same list
pub lists : (xs ys : List (ℕ × ℕ)) (r : Bool) → r ≡ pointwise same_size xs ys → Decides r (xs ≡ ys)
lists = slice_eq-Decides each
