-- Lists whose items pass from the front of one to the back of another.
use Rattle.std.proofs.Common.{◌≡◌, ℕ, zero, suc, ◌+◌, List, [], ◌∷◌, ◌++◌, length, map, drop, Some, arith, refl, sym, ◌∙◌, ap, subst, append_assoc, length-append}
use Rattle.std.specs.Prelude.{All, slice_get}
use Rattle.std.specs.List.{range_with_len}
use Rattle.std.proofs.lemmas.List.{map-append}
use Rattle.std.proofs.lemmas.List.Elements.{All-head, All-tail, All-push}
use Rattle.rts_core.proofs.LocalBalance.{range_split}
use Rattle.rts_core.proofs.Openings.{drop_next}

-- one more has passed
pub passed : {X : Type 0} (zs zs' xs ys whole : List X) (x y : X) → xs ≡ x ∷ ys → zs' ≡ zs ++ y ∷ [] → y ≡ x → zs ++ xs ≡ whole → zs' ++ ys ≡ whole
passed {X} zs zs' xs ys whole x y is pushed same all =
    let a : zs' ++ ys ≡ (zs ++ y ∷ []) ++ ys = ap (λ (v : List X). v ++ ys) pushed in
    let b : (zs ++ y ∷ []) ++ ys ≡ (zs ++ x ∷ []) ++ ys = ap (λ (v : X). (zs ++ v ∷ []) ++ ys) same in
    let c : (zs ++ x ∷ []) ++ ys ≡ zs ++ (x ∷ ys) = append_assoc zs (x ∷ []) ys in
    let d : zs ++ (x ∷ ys) ≡ zs ++ xs = ap (λ (v : List X). zs ++ v) (sym is) in
    a ∙ (b ∙ (c ∙ (d ∙ all)))

pub passed_by : {X Y Z : Type 0} (f : X → Z) (g : Y → Z) (zs zs' : List Y) (xs ys : List X) (whole : List Z) (x : X) (y : Y) → xs ≡ x ∷ ys
    → zs' ≡ zs ++ y ∷ [] → g y ≡ f x → map g zs ++ map f xs ≡ whole → map g zs' ++ map f ys ≡ whole
passed_by f g zs zs' xs ys whole x y is pushed same all =
    passed (map g zs) (map g zs') (map f xs) (map f ys) whole (f x) (g y) (ap (map f) is) (ap (map g) pushed ∙ map-append g zs (y ∷ [])) same all

append_none : {X : Type 0} (xs : List X) → xs ++ [] ≡ xs
append_none [] = refl
append_none (x ∷ xs) = ap (λ v. x ∷ v) (append_none xs)

-- all have passed
pub all_passed : {X : Type 0} (zs xs whole : List X) → xs ≡ [] → zs ++ xs ≡ whole → zs ≡ whole
all_passed {X} zs xs whole none all = sym (append_none zs) ∙ (ap (λ (v : List X). zs ++ v) (sym none) ∙ all)

-- how many there are then
pub counted_more : {X : Type 0} (zs zs' : List X) (y : X) → zs' ≡ zs ++ y ∷ [] → length zs' ≡ length zs + 1
counted_more zs zs' y pushed = ap length pushed ∙ length-append zs (y ∷ [])

-- what holds of all that have passed, and of one more
pub all_more : {X : Type 0} (P : X → Type 0) (zs zs' : List X) (y : X) → zs' ≡ zs ++ y ∷ [] → All P zs → P y → All P zs'
all_more P zs zs' y pushed all here = subst (All P) (sym pushed) (All-push P zs y all here)

-- what holds of all holds of the first and of the rest
pub all_next : {X : Type 0} (P : X → Type 0) (x : X) (xs ys : List X) → ys ≡ x ∷ xs → All P ys → P x × All P xs
all_next P x xs ys is all = let k = subst (All P) is all in (All-head P x xs k, All-tail P x xs k)

-- ---- what is at successive indices

module _ {X : Type 0} (f : X → ℕ) (a : ℕ) (x : X) (xs ys : List X) (is : ys ≡ x ∷ xs) (h : map f ys ≡ range_with_len a (length ys)) where
  whole : map f (x ∷ xs) ≡ range_with_len a (length (x ∷ xs))
  whole = subst (λ (v : List X). map f v ≡ range_with_len a (length v)) is h

  pub next_is : f x ≡ a
  next_is = let k = whole in cc

  pub rest_is : map f xs ≡ range_with_len (a + 1) (length xs)
  rest_is = let k = whole in cc

-- one more at the end
pub more_in_order : {X : Type 0} (f : X → ℕ) (x : X) (xs zs : List X) → zs ≡ xs ++ x ∷ [] → f x ≡ length xs → map f xs ≡ range_with_len 0 (length xs)
    → map f zs ≡ range_with_len 0 (length zs)
more_in_order {X} f x xs zs is next h =
    subst (λ (v : List X). map f v ≡ range_with_len 0 (length v)) (sym is)
    (let a : map f (xs ++ x ∷ []) ≡ map f xs ++ f x ∷ [] = map-append f xs (x ∷ []) in
    let b : range_with_len 0 (length xs + 1) ≡ range_with_len 0 (length xs) ++ range_with_len (0 + length xs) 1 = range_split 0 (length xs) 1 in
    let z : 0 + length xs ≡ f x = omega (arith, next) in
    let n : length (xs ++ x ∷ []) ≡ length xs + 1 = length-append xs (x ∷ []) in
    a ∙ (ap (λ v. v ++ f x ∷ []) h ∙ (ap (λ (v : ℕ). range_with_len 0 (length xs) ++ v ∷ []) (sym z) ∙ (sym b ∙ ap (range_with_len 0) (sym n)))))

-- what is left of a list from some index on, and the item at that index
pub drop_head : {X Y : Type 0} (f : X → Y) (zs : List Y) (k : ℕ) (x : X) (xs ys : List X) → ys ≡ x ∷ xs → map f ys ≡ drop k zs
    → (map f xs ≡ drop (k + 1) zs) × (slice_get zs k ≡ Some (f x))
drop_head f zs k x xs ys is h = drop_next zs k (f x) (map f xs) (sym (ap (map f) is) ∙ h)

-- as many indices as items
pub counted_by : {X : Type 0} (f : X → ℕ) (a n : ℕ) (xs : List X) → map f xs ≡ range_with_len a n → length xs ≡ n
counted_by f a zero [] h = refl
counted_by f a (suc n) [] h = cc
counted_by f a zero (x ∷ xs) h = cc
counted_by f a (suc n) (x ∷ xs) h = let k : map f xs ≡ range_with_len (a + 1) n = cc in omega (arith, counted_by f (a + 1) n xs k)
