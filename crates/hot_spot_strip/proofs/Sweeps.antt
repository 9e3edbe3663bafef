-- A round of the cells of a strip, one cell at a time.
use Rattle.std.proofs.Common.{◌≡◌, ℕ, suc, ◌+◌, ◌<◌, ◌≤◌, List, ◌++◌, length, take, drop, set, get_or, refl, ap, ◌∙◌, arith, append_assoc, append-nil, add-one, drop-cons}
use Rattle.std.proofs.lemmas.List.{take_more_set, drop-set-lt, get_or-drop, take_all, drop_all}
use Rattle.hot_spot_strip.specs.Mixing.{mixed}
use Rattle.hot_spot_strip.specs.Cells.{computed, stirred}

-- one more cell, computed in its place
pub computed_more : (k left : ℕ) (cells : List ℕ) (i after y : ℕ) → i < length cells → y ≡ mixed (stirred left (get_or cells i 0) (get_or cells (i + 1) after)) k
    → take (i + 1) (set cells i y) ++ computed k (get_or cells i 0) (drop (i + 1) (set cells i y)) after ≡ take i cells ++ computed k left (drop i cells) after
computed_more k left cells i after y lt is =
    let less : i < i + 1 = omega arith in
    let next : get_or (drop (suc i) cells) 0 after ≡ get_or cells (i + 1) after = get_or-drop (suc i) cells 0 after ∙ ap (λ j. get_or cells j after) (omega arith) in
    rw (take_more_set cells i y lt, drop-set-lt (i + 1) cells i y less, append_assoc, drop-cons cells i 0 lt, is, next, add-one i) refl

-- all of them
pub computed_all : (k left : ℕ) (cells : List ℕ) (i after : ℕ) → length cells ≤ i → take i cells ++ computed k left (drop i cells) after ≡ cells
computed_all k left cells i after past = rw (take_all i cells past, drop_all i cells past) (grind (arith, append-nil cells))
