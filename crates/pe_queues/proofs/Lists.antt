-- Facts of each element of a list, while one after the other changes.
use Rattle.std.proofs.Common.{◌≡◌, ℕ, zero, suc, ◌+◌, ◌<◌, ◌≤◌, List, [], ◌∷◌, ◌++◌, All, length, map, set, get_or, sym, refl, ap, ◌∙◌, subst, arith, length-append}
use Rattle.std.proofs.lemmas.List.{get_or-map, get_or_append_left, length-map}
use Rattle.std.proofs.Math.Seq.{get_or-append_seam}

-- the elements below k, and then that at k
pub below_more : {R : Type 0} (P : ℕ → R → Type 0) (xs : List R) (k : ℕ) (y : R) → k < length xs → ((j : ℕ) (d : R) → j < k → P j (get_or xs j d))
    → P k y → (j : ℕ) (d : R) → j < k + 1 → P j (get_or (set xs k y) j d)
below_more P [] k y lt done here j d below = absurd (omega arith)
below_more P (x ∷ xs) zero y lt done here zero d below = here
below_more P (x ∷ xs) zero y lt done here (suc j) d below = absurd (omega arith)
below_more P (x ∷ xs) (suc k) y lt done here zero d below = done 0 d (omega arith)
below_more P (x ∷ xs) (suc k) y lt done here (suc j) d below = below_more (λ j. P (suc j)) xs k y (omega arith) (λ j d l. done (suc j) d (omega arith)) here j d (omega arith)

-- the elements from k + 1 up to n, and then that at k
pub above_more : {R : Type 0} (P : ℕ → R → Type 0) (xs : List R) (k n : ℕ) (y : R) → k < length xs
    → ((j : ℕ) (d : R) → suc k ≤ j → j < n → P j (get_or xs j d)) → P k y → (j : ℕ) (d : R) → k ≤ j → j < n → P j (get_or (set xs k y) j d)
above_more P [] k n y lt done here j d from below = absurd (omega arith)
above_more P (x ∷ xs) zero n y lt done here zero d from below = here
above_more P (x ∷ xs) zero n y lt done here (suc j) d from below = done (suc j) d (omega arith) below
above_more P (x ∷ xs) (suc k) n y lt done here zero d from below = absurd (omega arith)
above_more P (x ∷ xs) (suc k) zero y lt done here (suc j) d from below = absurd (omega arith)
above_more P (x ∷ xs) (suc k) (suc n) y lt done here (suc j) d from below =
    above_more (λ j. P (suc j)) xs k n y (omega arith) (λ j d from below. done (suc j) d (omega arith) (omega arith)) here j d (omega arith) (omega arith)

pub at_some : {X : Type 0} (xs : List X) (k : ℕ) → k < length xs → (x : X) × (x ≡ get_or xs k x)
at_some [] k lt = absurd (omega arith)
at_some (x ∷ xs) zero lt = (x, refl)
at_some (x ∷ xs) (suc k) lt = at_some xs k (omega arith)

-- what a pop took from a beginning of a list, of which k are left
pub record IsPopped {X : Type 0} (all others rest : List X) (x : X) (k : ℕ) : Type 0 where
  pub long : length others ≡ suc k
  pub at : (d : X) → x ≡ get_or all k d
  pub left : (j : ℕ) (d : X) → j < length rest → get_or rest j d ≡ get_or all j d

pub popped : {X : Type 0} (all others rest : List X) (x : X) (k : ℕ) → ((j : ℕ) (d : X) → j < length others → get_or others j d ≡ get_or all j d)
    → others ≡ rest ++ x ∷ [] → k ≡ length rest → IsPopped all others rest x k
popped all others rest x k begins is left =
    let n : length others ≡ suc (length rest) = omega (arith, ap length is, length-append rest (x ∷ [])) in
    record {
      long = n ∙ ap suc (sym left);
      at = λ d. sym (get_or-append_seam rest x [] d) ∙ ap (λ l. get_or l (length rest) d) (sym is) ∙ begins (length rest) d (omega arith) ∙ ap (λ j. get_or all j d) (sym left);
      left = λ j d lt. sym (get_or_append_left rest (x ∷ []) d j lt) ∙ ap (λ l. get_or l j d) (sym is) ∙ begins j d (omega arith);
    }

-- lists whose elements look alike
pub alike : {X Y Z : Type 0} (f : X → Z) (g : Y → Z) (xs : List X) (ys : List Y) → length xs ≡ length ys
    → ((j : ℕ) (d : X) (e : Y) → j < length ys → f (get_or xs j d) ≡ g (get_or ys j e)) → map f xs ≡ map g ys
alike f g [] [] same each = refl
alike f g [] (y ∷ ys) same each = absurd (omega arith)
alike f g (x ∷ xs) [] same each = absurd (omega arith)
alike f g (x ∷ xs) (y ∷ ys) same each =
    let first : f x ≡ g y = each 0 x y (omega arith) in
    let rest : map f xs ≡ map g ys = alike f g xs ys (omega arith) (λ j d e lt. each (suc j) d e (omega arith)) in
    λ i. first i ∷ rest i

-- what holds of all that a list looks like holds of all that a list which looks alike does
pub all_alike : {X Y Z : Type 0} (P : Z → Type 0) (f : X → Z) (g : Y → Z) (xs : List X) (ys : List Y) → map f xs ≡ map g ys → All (λ y. P (g y)) ys → All (λ x. P (f x)) xs
all_alike P f g xs ys same all j d lt =
    let n : length xs ≡ length ys = sym (length-map xs f) ∙ ap length same ∙ length-map ys g in
    let y = at_some ys j (omega arith) in
    let at : f (get_or xs j d) ≡ g (get_or ys j y.0) = sym (get_or-map f xs j d (f d) lt) ∙ ap (λ l. get_or l j (f d)) same ∙ get_or-map g ys j y.0 (f d) (omega arith) in
    subst P (sym at) (all j y.0 (omega arith))
