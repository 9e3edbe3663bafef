-- A walk over a list that stops at the first element of which P does not hold: at each step, P holds of all elements that
-- are left exactly where it holds of all of them.
use Rattle.std.proofs.Common.{◌≡◌, ◌↔◌, ◌<◌, ◌+◌, ℕ, List, [], ◌∷◌, ◌++◌, length, get_or, drop, sym, subst, ap, ◌∙◌}
use Rattle.std.specs.List.{All}
use Rattle.std.proofs.lemmas.List.{drop_more}
use Rattle.std.proofs.lemmas.List.Elements.{All-nil, All-cons, All-head, All-tail, All-append}

-- what is left at an element
pub from_here : {X : Type 0} (xs : List X) (i : ℕ) (x : X) → i < length xs → x ≡ get_or xs i x → drop i xs ≡ x ∷ drop (i + 1) xs
from_here xs i x within read = drop_more xs i x within ∙ ap (λ y. y ∷ drop (i + 1) xs) (sym read)

-- what holds of all of two lists, one after the other, holds of all of each
pub all_parts : {X : Type 0} (P : X → Type 0) (xs ys : List X) → All P (xs ++ ys) → All P xs × All P ys
all_parts P [] ys h = (All-nil P, h)
all_parts P (x ∷ xs) ys h =
    let rest = all_parts P xs ys (All-tail P x (xs ++ ys) h) in
    (All-cons P x xs (All-head P x (xs ++ ys) h) rest.0, rest.1)

module _ {X : Type 0} (P : X → Type 0) (all rest : List X) (same : All P rest ↔ All P all) where
  -- past an element of which P holds
  pub walk_on : (x : X) (after : List X) → rest ≡ x ∷ after → P x → All P after ↔ All P all
  walk_on x after next here =
      let Q : List X → Type 0 = All P in (
        λ h. same.0 (subst Q (sym next) (All-cons P x after here h)),
        λ h. All-tail P x after (subst Q next (same.1 h)),
      )

  -- at an element of which it does not
  pub walk_stops : (x : X) (after : List X) → rest ≡ x ∷ after → (P x → ⊥) → All P all → ⊥
  walk_stops x after next fails h =
      let Q : List X → Type 0 = All P in
      fails (All-head P x after (subst Q next (same.1 h)))

  -- where none is left
  pub walk_ends : rest ≡ [] → All P all
  walk_ends none =
      let Q : List X → Type 0 = All P in
      same.0 (subst Q (sym none) (All-nil P))

-- two lists, one after the other
pub all_of_both : {X : Type 0} (P : X → Type 0) (xs ys zs : List X) → xs ++ ys ≡ zs → All P zs ↔ (All P xs × All P ys)
all_of_both {X} P xs ys zs joined =
    let Q : List X → Type 0 = All P in (
      λ h. all_parts P xs ys (subst Q (sym joined) h),
      λ h. subst Q joined (All-append P xs ys h.0 h.1),
    )
