-- The rounds that were decided, where their decisions have the elements, and the last decision of a board.
use Rattle.std.proofs.Common.{◌≡◌, ◌∙◌, ℕ, ◌+◌, ◌<◌, ◌≤◌, List, [], ◌∷◌, ◌++◌, length, map, drop, get_or, Option, None, Some, ap, sym, refl, arith, append_assoc}
use Rattle.std.specs.Prelude.{IfSome, IsSome, SomeIff}
use Rattle.std.specs.List.{range_with_len}
use Rattle.std.proofs.lemmas.List.{append-nil, drop_all, drop_more}
use Rattle.std.proofs.lemmas.List.FromFn.{map-range_with_len_more}
use Rattle.std.proofs.lemmas.Option.{IfSome_then}
use denote.Ref.{Bor}
use Rattle.sync_board.proofs.Places.{has_place}
use Rattle.sync_board.specs.Boards.{BoardState, IsBoard, IsKeptIn}
use Rattle.chare_index.specs.declared.limits.TheConstants.Limits.{ROUND}
use Rattle.lb_database.specs.Measuring.{IsMeasured, elements}
use Rattle.lb_strategy.specs.declared.decision.Decision.{Decision}
use Rattle.lb_strategy.specs.Moves.{HasPlace}

-- there is a value where it may be made
pub some_made : {T : Type 0} (o : Option T) (P : Type 0) (v : T) → SomeIff o P v → P → IsSome o
some_made None P v made may = absurd (made may)
some_made (Some x) P v made may = refl

-- and it is the one that was asked for
pub value_made : {T : Type 0} (o : Option T) (P : Type 0) (v x : T) → SomeIff o P v → o ≡ Some x → x ≡ v
value_made None P v x made is = absurd (cc)
value_made (Some y) P v x made is = cc

-- a board has fewer rounds than the last one's number
pub rounds_few : {A : Type 0} (b : BoardState A) → IsBoard b → IsMeasured b.database → length b.rounds < ROUND
rounds_few b board measured = omega (arith, board.numbered, measured.numbered)

-- a decision that is lent of a board has a place for each of its elements
pub all_placed : {A : Type 0} (b : BoardState A) (r : ℕ) (lent : Option (Bor (Decision A))) → IfSome lent (λ d. IsKeptIn b r d.now)
    → IfSome lent (λ d. (e : ℕ) → e < elements b.database → HasPlace d.now.division.cuts d.now.naming e)
all_placed b r lent kept = IfSome_then lent kept (λ d is e below. has_place b r e d.now is below)

-- one more number was pushed
pub one_more : (f : ℕ → ℕ) (n e x : ℕ) (was is : List ℕ) → is ≡ was ++ x ∷ [] → e ≡ n → x ≡ f e → was ≡ map f (range_with_len 0 n) → is ≡ map f (range_with_len 0 (n + 1))
one_more f n e x was is pushed same made held =
    pushed
    ∙ ap (λ l. l ++ x ∷ []) held
    ∙ ap (λ y. map f (range_with_len 0 n) ++ y ∷ []) (made ∙ ap f same)
    ∙ sym (map-range_with_len_more f 0 n n (omega arith))

-- one more item was moved over
pub moved_over : {X Y : Type 0} (f : X → Y) (before was is : List Y) (xs : List X) (i : ℕ) (x : X) (y : Y) → i < length xs → x ≡ get_or xs i x
    → y ≡ f x → is ≡ was ++ y ∷ [] → was ++ map f (drop i xs) ≡ before ++ map f xs → is ++ map f (drop (i + 1) xs) ≡ before ++ map f xs
moved_over f before was is xs i x y inside read made pushed held =
    let rest : drop i xs ≡ x ∷ drop (i + 1) xs = drop_more xs i x inside ∙ ap (λ z. z ∷ drop (i + 1) xs) (sym read) in
    ap (λ l. l ++ map f (drop (i + 1) xs)) pushed
    ∙ append_assoc was (y ∷ []) (map f (drop (i + 1) xs))
    ∙ ap (λ z. was ++ z ∷ map f (drop (i + 1) xs)) made
    ∙ ap (λ l. was ++ map f l) (sym rest)
    ∙ held

-- all were
pub all_over : {X Y : Type 0} (f : X → Y) (before was : List Y) (xs : List X) (i : ℕ) → length xs ≤ i → was ++ map f (drop i xs) ≡ before ++ map f xs → was ≡ before ++ map f xs
all_over f before was xs i end held =
    sym (append-nil was) ∙ ap (λ l. was ++ map f l) (sym (drop_all i xs end)) ∙ held
