-- The results of exchanges.
use Rattle.std.proofs.Common.{◌≡◌, ◌≢◌, ◌⊎◌, inl, inr, ℕ, zero, suc, ◌+◌, ◌<◌, ◌==◌, List, [], ◌∷◌, ◌++◌, length, map, ap, refl, sym, arith, Bool, true, false, Some, if◌then◌else◌}
use Rattle.std.specs.Prelude.{slice_get}
use Rattle.std.specs.List.{range_with_len}
use Rattle.std.proofs.lemmas.Bool.Decides.{nat_tests}
use Rattle.reductions.specs.declared.tree_message.TreeMessage.TheVariants.{User, Part, Whole}
use Rattle.reductions.specs.Exchanges.{Way, set_at}

-- ---- places

-- a fact at every place, by the fact at the place that is set and at the others
pub at_by : {X : Type 0} (P : X → Type 0) (f : ℕ → X) (i : ℕ) (x : X) (j : ℕ) → (j ≡ i → P x) → (j ≢ i → P (f j)) → P (set_at f i x j)
at_by P f i x j here there = by (j == i) refl
  where
    by : (b : Bool) → (j == i) ≡ b → P (if b then x else f j)
    by true e = here (grind (arith, nat_tests))
    by false e = there (grind (arith, nat_tests))

pub same_place : (j i : ℕ) → (j ≡ i) ⊎ (j ≢ i)
same_place j i = by (j == i) refl
  where
    by : (b : Bool) → (j == i) ≡ b → (j ≡ i) ⊎ (j ≢ i)
    by true e = inl (grind (arith, nat_tests))
    by false e = inr (grind (arith, nat_tests))

pub set_here : {X : Type 0} (f : ℕ → X) (i : ℕ) (x : X) → set_at f i x i ≡ x
set_here f i x = at_by (λ y. y ≡ x) f i x i (λ _. refl) (λ ne. absurd (ne refl))

pub set_there : {X : Type 0} (f : ℕ → X) (i : ℕ) (x : X) (j : ℕ) → j ≢ i → set_at f i x j ≡ f j
set_there f i x j ne = at_by (λ y. y ≡ f j) f i x j (λ e. absurd (ne e)) (λ _. refl)

-- ---- lists

pub get_front : {X : Type 0} (xs ys : List X) (k : ℕ) (x : X) → slice_get xs k ≡ Some x → slice_get (xs ++ ys) k ≡ Some x
get_front [] ys k x e = cc
get_front (y ∷ xs) ys zero x e = e
get_front (y ∷ xs) ys (suc k) x e = get_front xs ys k x e

pub get_back : {X : Type 0} (xs ys : List X) (k : ℕ) (x : X) → k < length xs → slice_get (xs ++ ys) k ≡ Some x → slice_get xs k ≡ Some x
get_back [] ys k x within e = absurd (omega arith)
get_back (y ∷ xs) ys zero x within e = e
get_back (y ∷ xs) ys (suc k) x within e = get_back xs ys k x (omega arith) e

pub get_last : {X : Type 0} (xs : List X) (x : X) → slice_get (xs ++ x ∷ []) (length xs) ≡ Some x
get_last [] x = refl
get_last (y ∷ xs) x = get_last xs x

pub get_more : {X : Type 0} (xs : List X) (y : X) (k : ℕ) (x : X) → slice_get (xs ++ y ∷ []) k ≡ Some x → (slice_get xs k ≡ Some x) ⊎ ((k ≡ length xs) × (x ≡ y))
get_more [] y zero x e = inr (refl, cc)
get_more [] y (suc k) x e = cc
get_more (z ∷ xs) y zero x e = inl e
get_more (z ∷ xs) y (suc k) x e = by (get_more xs y k x e)
  where
    by : (slice_get xs k ≡ Some x) ⊎ ((k ≡ length xs) × (x ≡ y)) → (slice_get xs k ≡ Some x) ⊎ ((suc k ≡ length (z ∷ xs)) × (x ≡ y))
    by (inl front) = inl front
    by (inr last) = inr (ap suc last.0, last.1)

-- P holds of each
abbrev pub AllOf : {X : Type 0} → (X → Type 0) → List X → Type 0
AllOf P [] = Unit {0}
AllOf P (x ∷ xs) = P x × AllOf P xs

pub all_map : {X : Type 0} (P Q : X → Type 0) → ((x : X) → P x → Q x) → (xs : List X) → AllOf P xs → AllOf Q xs
all_map P Q f [] all = tt
all_map P Q f (x ∷ xs) all = (f x all.0, all_map P Q f xs all.1)

pub all_map₂ : {X : Type 0} (P Q R : X → Type 0) → ((x : X) → P x → Q x → R x) → (xs : List X) → AllOf P xs → AllOf Q xs → AllOf R xs
all_map₂ P Q R f [] all more = tt
all_map₂ P Q R f (x ∷ xs) all more = (f x all.0 more.0, all_map₂ P Q R f xs all.1 more.1)

pub all_join : {X : Type 0} (P : X → Type 0) (xs ys : List X) → AllOf P xs → AllOf P ys → AllOf P (xs ++ ys)
all_join P [] ys all more = more
all_join P (x ∷ xs) ys all more = (all.0, all_join P xs ys all.1 more)

pub all_split : {X : Type 0} (P : X → Type 0) (before : List X) (x : X) (after : List X) → AllOf P (before ++ x ∷ after) → P x × AllOf P (before ++ after)
all_split P [] x after all = all
all_split P (y ∷ before) x after all = let rest = all_split P before x after all.1 in (rest.0, (all.0, rest.1))

pub all_none : {X : Type 0} (P : X → Type 0) → ((x : X) → P x → ⊥) → (xs : List X) → AllOf P xs → xs ≡ []
all_none P f [] all = refl
all_none P f (x ∷ xs) all = absurd (f x all.0)

module _ {V : Type 0} where
  -- what there is at most one of: the result for an element, and the part for a slot of an element
  abbrev pub key : Way V → ℕ × ℕ
  key (i, Whole value) = (i, 0)
  key (i, Part j value) = (i, suc j)
  key (i, User none) = absurd none

  abbrev pub Differs : Way V → Way V → Type 0
  Differs x y = key y ≢ key x

  abbrev pub AreDistinct : List (Way V) → Type 0
  AreDistinct [] = Unit {0}
  AreDistinct (x ∷ xs) = AllOf (Differs x) xs × AreDistinct xs

  pub distinct_split : (before : List (Way V)) (x : Way V) (after : List (Way V)) → AreDistinct (before ++ x ∷ after)
      → AllOf (Differs x) (before ++ after) × AreDistinct (before ++ after)
  distinct_split [] x after all = all
  distinct_split (y ∷ before) x after all =
      let rest = distinct_split before x after all.1 in
      let other = all_split (Differs y) before x after all.0 in
      (((λ e. other.0 (sym e)), rest.0), (other.1, rest.1))

  pub distinct_more : (xs : List (Way V)) (x : Way V) → AllOf (Differs x) xs → AreDistinct xs → AreDistinct (xs ++ x ∷ [])
  distinct_more [] x all distinct = (tt, tt)
  distinct_more (y ∷ xs) x all distinct =
      (all_join (Differs y) xs (x ∷ []) distinct.0 ((λ e. all.0 (sym e)), tt), distinct_more xs x all.1 distinct.1)

  -- a result to each of some elements
  abbrev pub wholes : ℕ → ℕ → V → List (Way V)
  wholes a m value = map (λ i. (i, Whole value)) (range_with_len a m)

  wholes_above : (a b m : ℕ) (value : V) → a < b → AllOf (Differs (a, Whole value)) (wholes b m value)
  wholes_above a b zero value above = tt
  wholes_above a b (suc m) value above = ((λ e. let same : b ≡ a = ap (λ k. k.0) e in absurd (omega arith)), wholes_above a (b + 1) m value (omega arith))

  pub wholes_distinct : (a m : ℕ) (value : V) → AreDistinct (wholes a m value)
  wholes_distinct a zero value = tt
  wholes_distinct a (suc m) value = (wholes_above a (a + 1) m value (omega arith), wholes_distinct (a + 1) m value)

  pub wholes_all : (P : Way V → Type 0) (a m : ℕ) (value : V) → ((i : ℕ) → i < a + m → P (i, Whole value)) → AllOf P (wholes a m value)
  wholes_all P a zero value each = tt
  wholes_all P a (suc m) value each = (each a (omega arith), wholes_all P (a + 1) m value (λ i within. each i (omega arith)))
