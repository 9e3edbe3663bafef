-- Elements that are two lists, one of sizes and one of places.
use Rattle.std.proofs.Common.{◌≡◌, ℕ, zero, suc, ◌<◌, List, [], ◌∷◌, length, take, drop, get_or, slice_index, sum, sum_by, arith, ap, sym, ◌∙◌, refl}
use Rattle.std.specs.List.{zip}
use Rattle.std.proofs.lemmas.List.{get_or_default}
use Rattle.std.proofs.lemmas.List.Sums.{sum-map}
use Rattle.std.proofs.lemmas.Slice.Zip.{firsts-zip, get_or-zip, length-zip}

-- as many pairs as sizes
pub zip_counted : (bytes places : List ℕ) → length places ≡ length bytes → length (zip bytes places) ≡ length bytes
zip_counted bytes places paired = omega (arith, length-zip bytes places, paired)

-- one of the pairs
pub pair_at : (bytes places : List ℕ) (i : ℕ) → length places ≡ length bytes → i < length bytes
    → (slice_index bytes i, slice_index places i) ≡ get_or (zip bytes places) i (slice_index bytes i, slice_index places i)
pair_at bytes places i paired inside =
    let within : i < length (zip bytes places) = omega (arith, inside, zip_counted bytes places paired) in
    sym (get_or_default (zip bytes places) i (slice_index bytes i, slice_index places i) (0, 0) within ∙ get_or-zip bytes places i (0, 0) inside (omega (arith, inside, paired)))

-- the sum of the sizes
pub bytes_of_zip : (bytes places : List ℕ) → length places ≡ length bytes → sum_by (λ size. size.0) (zip bytes places) ≡ sum bytes
bytes_of_zip bytes places paired =
    sym (sum-map (λ (size : ℕ × ℕ). size.0) (zip bytes places)) ∙ ap sum (firsts-zip bytes places paired)

zip_nil : (xs : List ℕ) → zip {X = ℕ} xs [] ≡ []
zip_nil [] = refl
zip_nil (x ∷ xs) = refl

take_zip : (n : ℕ) (xs ys : List ℕ) → take n (zip xs ys) ≡ zip (take n xs) (take n ys)
take_zip zero xs ys = refl
take_zip (suc n) [] ys = refl
take_zip (suc n) (x ∷ xs) [] = refl
take_zip (suc n) (x ∷ xs) (y ∷ ys) = ap (λ rest. (x, y) ∷ rest) (take_zip n xs ys)

drop_zip : (n : ℕ) (xs ys : List ℕ) → drop n (zip xs ys) ≡ zip (drop n xs) (drop n ys)
drop_zip zero xs ys = refl
drop_zip (suc n) [] ys = refl
drop_zip (suc n) (x ∷ xs) [] = sym (zip_nil (drop n xs))
drop_zip (suc n) (x ∷ xs) (y ∷ ys) = drop_zip n xs ys

-- the pairs of some elements in a row
pub part_of_zip : (first count : ℕ) (bytes places : List ℕ) → zip (take count (drop first bytes)) (take count (drop first places)) ≡ take count (drop first (zip bytes places))
part_of_zip first count bytes places =
    sym (ap (take count) (drop_zip first bytes places) ∙ take_zip count (drop first bytes) (drop first places))
