-- Sums over the passes of a queue, of which one changes.
use Rattle.std.proofs.Common.{◌≡◌, ℕ, zero, suc, ◌+◌, ◌≤◌, List, [], ◌∷◌, length, set, sum_by, sym, refl, ap, arith}
use Rattle.std.proofs.lemmas.List.Sums.{sum_by-cons}
use mathlib.Core.Option.{some, some-injective, some-ne-none}
use lib.ListN.{get_elem?}

module _ {X : Type 0} where
  -- what was changed is there
  pub changed_there : (xs : List X) (k : ℕ) (x y : X) → get_elem? xs k ≡ some x → get_elem? (set xs k y) k ≡ some y
  changed_there [] k x y at = absurd (some-ne-none x (sym at))
  changed_there (z ∷ zs) zero x y at = refl
  changed_there (z ∷ zs) (suc k) x y at = changed_there zs k x y at

  -- a sum changes by what the changed one counts
  pub sum_changed : (f : X → ℕ) (xs : List X) (k : ℕ) (x y : X) → get_elem? xs k ≡ some x → sum_by f (set xs k y) + f x ≡ sum_by f xs + f y
  sum_changed f [] k x y at = absurd (some-ne-none x (sym at))
  sum_changed f (z ∷ zs) zero x y at =
      let here : f z ≡ f x = ap f (some-injective z x at) in
      omega (arith, sum_by-cons f z zs, sum_by-cons f y zs)
  sum_changed f (z ∷ zs) (suc k) x y at = omega (arith, sum_by-cons f z zs, sum_by-cons f z (set zs k y), sum_changed f zs k x y at)

  -- none counts more than all
  pub one_of_sum : (f : X → ℕ) (xs : List X) (k : ℕ) (x : X) → get_elem? xs k ≡ some x → f x ≤ sum_by f xs
  one_of_sum f [] k x at = absurd (some-ne-none x (sym at))
  one_of_sum f (z ∷ zs) zero x at =
      let here : f z ≡ f x = ap f (some-injective z x at) in
      omega (arith, sum_by-cons f z zs)
  one_of_sum f (z ∷ zs) (suc k) x at = omega (arith, sum_by-cons f z zs, one_of_sum f zs k x at)

  -- where f counts nothing in all of them, and g counts nothing where f does not, g counts nothing
  nothing_counted : (f g : X → ℕ) (xs : List X) → sum_by f xs ≡ 0 → ((k : ℕ) (x : X) → get_elem? xs k ≡ some x → f x ≡ 0 → g x ≡ 0) → sum_by g xs ≡ 0
  nothing_counted f g [] none both = refl
  nothing_counted f g (z ∷ zs) none both =
      let first = sum_by-cons f z zs in
      let here : g z ≡ 0 = both 0 z refl (omega arith) in
      let rest : sum_by g zs ≡ 0 = nothing_counted f g zs (omega arith) (λ k x at. both (suc k) x at) in
      omega (arith, sum_by-cons g z zs)

  -- where one counts all that f counts, it counts all that g counts
  pub all_in_one : (f g : X → ℕ) (xs : List X) (k : ℕ) (x : X) → get_elem? xs k ≡ some x → sum_by f xs ≡ f x
      → ((j : ℕ) (y : X) → get_elem? xs j ≡ some y → f y ≡ 0 → g y ≡ 0) → sum_by g xs ≡ g x
  all_in_one f g [] k x at all both = absurd (some-ne-none x (sym at))
  all_in_one f g (z ∷ zs) zero x at all both =
      let first = sum_by-cons f z zs in
      let here : f z ≡ f x = ap f (some-injective z x at) in
      let same : g z ≡ g x = ap g (some-injective z x at) in
      let rest : sum_by g zs ≡ 0 = nothing_counted f g zs (omega arith) (λ j y. both (suc j) y) in
      omega (arith, sum_by-cons g z zs)
  all_in_one f g (z ∷ zs) (suc k) x at all both =
      let first = sum_by-cons f z zs in
      let most = one_of_sum f zs k x at in
      let here : g z ≡ 0 = both 0 z refl (omega arith) in
      let rest : sum_by g zs ≡ g x = all_in_one f g zs k x at (omega arith) (λ j y. both (suc j) y) in
      omega (arith, sum_by-cons g z zs)

  -- a length is a sum of ones
  pub sum_of_ones : (xs : List X) → sum_by (λ _. 1) xs ≡ length xs
  sum_of_ones [] = refl
  sum_of_ones (x ∷ xs) = omega (arith, sum_by-cons (λ (_ : X). 1) x xs, sum_of_ones xs)

  pub sum_of_none : (f : X → ℕ) (xs : List X) → length xs ≡ 0 → sum_by f xs ≡ 0
  sum_of_none f [] none = refl
  sum_of_none f (x ∷ xs) none = absurd (omega arith)
