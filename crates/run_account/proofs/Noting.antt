-- Numbers that are noted in a list, one after another.
use Rattle.std.proofs.Common.{◌≡◌, ℕ, ◌+◌, ◌<◌, List, [], ◌∷◌, ◌++◌, length, get_or, set, take, refl, sym, ap, ◌∙◌}
use Rattle.std.specs.List.{flat_map}
use Rattle.std.proofs.Math.Seq.{take-append_seam}
use Rattle.std.proofs.lemmas.Grind.{flat_map-append}
use Rattle.std.proofs.lemmas.List.{append-nil, length-set, take_more}
use Rattle.run_account.specs.Noting.{with_noted}

-- noting more
pub noted_append : (noted : List ℕ) (xs ys : List (ℕ × ℕ)) → with_noted noted (xs ++ ys) ≡ with_noted (with_noted noted xs) ys
noted_append noted [] ys = refl
noted_append noted (x ∷ xs) ys = noted_append (set noted x.0 x.1) xs ys

pub length-with_noted : (noted : List ℕ) (xs : List (ℕ × ℕ)) → length (with_noted noted xs) ≡ length noted
length-with_noted noted [] = refl
length-with_noted noted (x ∷ xs) = length-with_noted (set noted x.0 x.1) xs ∙ length-set noted x.0 x.1

-- one more item of a list whose items are noted in order
pub noted_more : {X : Type 0} (f : X → List (ℕ × ℕ)) (xs : List X) (i : ℕ) (x : X) (before start after : List ℕ)
    → i < length xs
    → x ≡ get_or xs i x
    → start ≡ with_noted before (flat_map f (take i xs))
    → after ≡ with_noted start (f x)
    → after ≡ with_noted before (flat_map f (take (i + 1) xs))
noted_more {X} f xs i x before start after inside is held noted =
    let more : take (i + 1) xs ≡ take i xs ++ x ∷ [] = take_more xs i x inside ∙ ap (λ (v : X). take i xs ++ v ∷ []) (sym is) in
    let split = flat_map-append f (take i xs) (x ∷ []) ∙ ap (λ (v : List (ℕ × ℕ)). flat_map f (take i xs) ++ v) (append-nil (f x)) in
    noted
    ∙ ap (λ v. with_noted v (f x)) held
    ∙ sym (noted_append before (flat_map f (take i xs)) (f x))
    ∙ ap (with_noted before) (sym (ap (flat_map f) more ∙ split))

-- what is written back to a list through a part of it that is the whole
pub written_back : (n : ℕ) (new rest : List ℕ) → length new ≡ n → take n (new ++ rest) ≡ new
written_back n new rest same = rw (← same) (take-append_seam new rest)

-- the items of a list in two parts
pub noted_both : {X : Type 0} (f : X → List (ℕ × ℕ)) (xs ys zs : List X) (before start after : List ℕ)
    → xs ++ ys ≡ zs
    → start ≡ with_noted before (flat_map f xs)
    → after ≡ with_noted start (flat_map f ys)
    → after ≡ with_noted before (flat_map f zs)
noted_both f xs ys zs before start after whole first second =
    second
    ∙ ap (λ v. with_noted v (flat_map f ys)) first
    ∙ sym (noted_append before (flat_map f xs) (flat_map f ys))
    ∙ ap (with_noted before) (sym (flat_map-append f xs ys) ∙ ap (flat_map f) whole)
