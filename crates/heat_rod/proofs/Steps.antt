-- The cells of a strip, one after another.
use Rattle.std.proofs.Common.{◌≡◌, ℕ, ◌+◌, ◌≤◌, ◌<◌, List, [], ◌∷◌, ◌++◌, length, get_or, map, true, false, not, nat_lt, sym, ap, ◌∙◌, arith, add-one}
use Rattle.std.specs.List.{count_by, fold, range_with_len}
use Rattle.std.proofs.lemmas.List.{get_or_default}
use Rattle.std.proofs.lemmas.List.FromFn.{length-map-range_with_len, map-range_with_len_more}
use Rattle.std.proofs.lemmas.List.Sums.{count_by-le-length, fold-append}
use Rattle.std.specs.Float.{Float, binary64, float_with_sign}
use Rattle.std.specs.Float.Ieee.{sub}
use Rattle.reductions.specs.Combining.{greatest_f64}
use Rattle.heat_rod.specs.declared.plan.RodPlan.{RodPlan}
use Rattle.heat_rod.specs.declared.sweep.TheConstants.{CELLS}
use Rattle.heat_rod.specs.Heating.{is_burning, next_cell}
use Rattle.heat_rod.specs.Rods.{opening_chare, opening_rod}
use Rattle.heat_rod.specs.Strips.{are_few}
use Rattle.heat_rod.specs.Sweeps.{change_at, next_at, next_cells}

-- one more cell
pub next_more : (left : Float) (cells : List Float) (right : Float) (i : ℕ) (new : Float) (xs ys : List Float) → xs ≡ map (next_at left cells right) (range_with_len 0 i)
    → ys ≡ xs ++ new ∷ [] → new ≡ next_at left cells right i → ys ≡ map (next_at left cells right) (range_with_len 0 (i + 1))
next_more left cells right i new xs ys before made is =
    let f = next_at left cells right in
    made
    ∙ ap (λ v. v ++ new ∷ []) before
    ∙ ap (λ x. map f (range_with_len 0 i) ++ x ∷ []) is
    ∙ sym (map-range_with_len_more f 0 i i (omega arith))

-- and its change
pub change_more : (most left : Float) (cells : List Float) (right : Float) (i : ℕ) (new old now : Float)
    → old ≡ fold greatest_f64 most (map (change_at left cells right) (range_with_len 0 i))
    → now ≡ greatest_f64 old new → new ≡ change_at left cells right i → now ≡ fold greatest_f64 most (map (change_at left cells right) (range_with_len 0 (i + 1)))
change_more most left cells right i new old now before made is =
    let f = change_at left cells right in
    made
    ∙ ap (λ x. greatest_f64 x new) before
    ∙ ap (greatest_f64 (fold greatest_f64 most (map f (range_with_len 0 i)))) is
    ∙ sym (fold-append greatest_f64 most (map f (range_with_len 0 i)) (f i ∷ []))
    ∙ ap (fold greatest_f64 most) (sym (map-range_with_len_more f 0 i i (omega arith)))

-- they are as many as before
pub few_next : (left : Float) (cells : List Float) (right : Float) (new : List Float) → new ≡ next_cells left cells right → are_few cells ≡ true → are_few new ≡ true
few_next left cells right new is few =
    ap are_few is ∙ ap (λ n. not (nat_lt CELLS n)) (length-map-range_with_len (next_at left cells right) 0 (length cells)) ∙ few

pub burning_few : (cells : List Float) → count_by is_burning cells ≤ length cells
burning_few cells = count_by-le-length is_burning cells

-- one more strip of a rod
pub rod_more : (plan : RodPlan) (i : ℕ) → opening_rod plan i ++ opening_chare plan i ∷ [] ≡ opening_rod plan (i + 1)
rod_more plan i = sym (map-range_with_len_more (opening_chare plan) 0 i i (omega arith))

-- the cell that is computed is the one at its place
pub at_place : (left : Float) (cells : List Float) (right : Float) (i : ℕ) (before cell after heat d : Float) → i < length cells → before ≡ get_or (left ∷ cells) i left
    → cell ≡ get_or cells i d → after ≡ get_or cells (i + 1) right → heat ≡ next_cell before cell after → heat ≡ next_at left cells right i
at_place left cells right i before cell after heat d lt first second third is =
    is
    ∙ ap (λ x. next_cell x cell after) first
    ∙ ap (λ x. next_cell (get_or (left ∷ cells) i left) x after) (second ∙ get_or_default cells i d left lt)
    ∙ ap (λ x. next_cell (get_or (left ∷ cells) i left) (get_or cells i left) x) third

-- it is the one before the next
pub beside_next : (left : Float) (cells : List Float) (i : ℕ) (d : Float) → i < length cells → get_or cells i d ≡ get_or (left ∷ cells) (i + 1) left
beside_next left cells i d lt = rw (add-one i) (get_or_default cells i d left lt)

-- and this is its change
pub change_is : (left : Float) (cells : List Float) (right : Float) (i : ℕ) (heat new d : Float) → i < length cells
    → new ≡ float_with_sign false (sub binary64 heat (get_or cells i d))
    → heat ≡ next_at left cells right i → new ≡ change_at left cells right i
change_is left cells right i heat new d lt is heat_is =
    is
    ∙ ap (λ x. float_with_sign false (sub binary64 x (get_or cells i d))) heat_is
    ∙ ap (λ x. float_with_sign false (sub binary64 (next_at left cells right i) x)) (get_or_default cells i d left lt)
