-- Two lists of the same length beside one another.
use Rattle.std.proofs.Common.{◌≡◌, ℕ, ◌+◌, ◌-◌, ◌<◌, ◌≤◌, List, [], ◌∷◌, ◌++◌, length, set, take, slice_index, arith, ap, sym, subst, ◌∙◌}
use Rattle.std.specs.Prelude.{All}
use Rattle.std.specs.List.{between, zip}
use Rattle.std.proofs.lemmas.List.{take_all, take_more_set}
use Rattle.std.proofs.lemmas.List.Edits.{between_more}
use Rattle.std.proofs.Math.Seq.{take-add}
use Rattle.std.proofs.lemmas.List.Elements.{All-from_get_or, All-get_or}
use Rattle.std.proofs.lemmas.Slice.Zip.{length-zip, get_or-zip}

pub zip_length : (xs ys : List ℕ) → length ys ≡ length xs → length (zip xs ys) ≡ length xs
zip_length xs ys same = omega (arith, length-zip xs ys, same)

-- one more pair is written
pub one_more_pair : (xs ys : List ℕ) (block : List (ℕ × ℕ)) (first i y : ℕ) → first ≤ i → i < length xs → i - first < length block
    → length ys ≡ length xs → y ≡ slice_index ys i → take (i - first) block ≡ between first i (zip xs ys)
    → take (i + 1 - first) (set block (i - first) (slice_index xs i, y)) ≡ between first (i + 1) (zip xs ys)
one_more_pair xs ys block first i y from inside room same is before =
    let next : i + 1 - first ≡ i - first + 1 = omega (arith, from) in
    ap (λ n. take n (set block (i - first) (slice_index xs i, y))) next
    ∙ take_more_set block (i - first) (slice_index xs i, y) room
    ∙ ap (λ front. front ++ (slice_index xs i, y) ∷ []) before
    ∙ ap (λ second. between first i (zip xs ys) ++ (slice_index xs i, second) ∷ []) is
    ∙ sym (
    between_more (zip xs ys) first i (0, 0) from (omega (arith, inside, zip_length xs ys same))
    ∙ ap (λ pair. between first i (zip xs ys) ++ pair ∷ []) (get_or-zip xs ys i (0, 0) inside (omega (arith, inside, same)))
    )

-- one more block of pairs
pub one_more_block : (pairs zipped block : List (ℕ × ℕ)) (first end : ℕ) → first ≤ end → pairs ≡ take first zipped → block ≡ between first end zipped
    → pairs ++ block ≡ take end zipped
one_more_block pairs zipped block first end ordered before more =
    ap (λ front. front ++ block) before
    ∙ ap (λ back. take first zipped ++ back) more
    ∙ sym (take-add first (end - first) zipped)
    ∙ ap (λ n. take n zipped) (omega (arith, ordered))

-- what holds of each number of the first list holds of the first of each pair
pub all_firsts : (P : ℕ → Type 0) (xs ys : List ℕ) → length ys ≡ length xs → All P xs → All (λ (pair : ℕ × ℕ). P pair.0) (zip xs ys)
all_firsts P xs ys same all =
    All-from_get_or (λ (pair : ℕ × ℕ). P pair.0) (zip xs ys) (0, 0) (λ i inside.
    let there : i < length xs = omega (arith, inside, zip_length xs ys same) in
    subst P (sym (ap (λ (pair : ℕ × ℕ). pair.0) (get_or-zip xs ys i (0, 0) there (omega (arith, there, same))))) (All-get_or P xs i 0 there all))

-- what holds of each number of the second list holds of the second of each pair
pub all_seconds : (P : ℕ → Type 0) (xs ys : List ℕ) → length ys ≡ length xs → All P ys → All (λ (pair : ℕ × ℕ). P pair.1) (zip xs ys)
all_seconds P xs ys same all =
    All-from_get_or (λ (pair : ℕ × ℕ). P pair.1) (zip xs ys) (0, 0) (λ i inside.
    let there : i < length xs = omega (arith, inside, zip_length xs ys same) in
    subst P (sym (ap (λ (pair : ℕ × ℕ). pair.1) (get_or-zip xs ys i (0, 0) there (omega (arith, there, same))))) (All-get_or P ys i 0 (omega (arith, there, same)) all))

-- all pairs
pub all_pairs : (xs ys : List ℕ) (n : ℕ) → length xs ≤ n → length ys ≡ length xs → take n (zip xs ys) ≡ zip xs ys
all_pairs xs ys n within same = take_all n (zip xs ys) (omega (arith, within, zip_length xs ys same))
