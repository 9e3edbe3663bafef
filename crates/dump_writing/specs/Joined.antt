-- The text of a list, item by item.
use Rattle.std.specs.Prelude.{◌≡◌, ℕ, zero, suc, List, [], ◌∷◌, ◌++◌, length, slice_index_or, flat_map, refl}
use Rattle.std.proofs.Common.{ap, arith}
use Rattle.std.specs.Int.{Width}
use Rattle.dump_format.specs.Text.{element_text, elements_text}

-- the texts of items 0 to n - 1, one after another
unfoldable pub joined : (ℕ → List ℕ) → ℕ → List ℕ
joined item zero = []
joined item (suc n) = item 0 ++ joined (λ k. item (suc k)) n

-- a text for each item of a list
pub joined_list : {X : Type 0} (f : X → List ℕ) (d : X) (xs : List X) → joined (λ k. f (slice_index_or xs k d)) (length xs) ≡ flat_map f xs
unfolding joined
joined_list f d [] = refl
joined_list f d (x ∷ xs) = ap (λ rest. f x ++ rest) (joined_list f d xs)

-- the elements of a snapshot
pub joined_elements : (w : Width) (loads : List ℕ) (sizes : List (ℕ × ℕ)) → length loads ≡ length sizes
    → joined (λ k. element_text w (slice_index_or loads k 0) (slice_index_or sizes k (0, 0))) (length loads) ≡ elements_text w loads sizes
unfolding joined elements_text
joined_elements w [] sizes same = refl
joined_elements w (load ∷ loads) [] same = absurd (omega arith)
joined_elements w (load ∷ loads) (size ∷ sizes) same = ap (λ rest. element_text w load size ++ rest) (joined_elements w loads sizes (omega arith))
