-- The strips of a chain, one at a time.
use Rattle.std.proofs.Common.{◌≡◌, ℕ, ◌+◌, ◌-◌, ◌^◌, ◌<◌, ◌≤◌, List, [], ◌∷◌, ◌++◌, All, length, drop, get_or, map, refl, subst, sym, arith, append_assoc, append-nil, add-one, drop-cons}
use Rattle.std.specs.Prelude.{Err, IfErr, Ok, Result, false, suc, sum_by, true}
use Rattle.std.specs.Result.{IsErrAnd}
use Rattle.std.proofs.Common.{◌∙◌, ap}
use Rattle.std.proofs.lemmas.List.Elements.{All-head, All-tail}
use Rattle.std.proofs.lemmas.List.Sums.{sum_by-cons}
use Rattle.std.proofs.lemmas.List.{drop_all}
use Rattle.std.proofs.lemmas.List.FromFn.{map-range_with_len_more}
use Rattle.std.specs.List.{range_with_len}
use Rattle.hot_spot_strip.specs.Mixing.{mix}
use Rattle.hot_spot_strip.specs.declared.mode.Mode.{Mode}
use Rattle.hot_spot_strip.specs.Strips.{StripView, is_strip, opening_strip}
use Rattle.hot_spot_strip.specs.Openings.{IsChain, opening_cells, opening_strips}

pub opened_more : (mode : Mode) (rounds work first : ℕ) (counts : List ℕ) (i : ℕ) (strips : List StripView) → i < length counts
    → (strips ++ opening_strip mode rounds work (opening_cells first (get_or counts i 0)) ∷ []) ++ opening_strips mode rounds work (first + get_or counts i 0) (drop (i + 1) counts)
    ≡ strips ++ opening_strips mode rounds work first (drop i counts)
opened_more mode rounds work first counts i strips lt = rw (append_assoc, drop-cons counts i 0 lt, add-one i) refl

-- the strips that open, one more of which was made for the cells up to `end`
pub opened_next : (mode : Mode) (rounds work first end : ℕ) (counts : List ℕ) (i : ℕ) (strips new : List StripView) (strip : StripView) → i < length counts
    → end ≡ first + get_or counts i 0 → strip ≡ opening_strip mode rounds work (opening_cells first (end - first)) → new ≡ strips ++ strip ∷ []
    → new ++ opening_strips mode rounds work end (drop (i + 1) counts) ≡ strips ++ opening_strips mode rounds work first (drop i counts)
opened_next mode rounds work first end counts i strips new strip lt e is made =
    let many : end - first ≡ get_or counts i 0 = omega arith in
    rw (made, is, many, e) (opened_more mode rounds work first counts i strips lt)

-- one more cell
pub cells_more : (first number : ℕ) → first ≤ number → map mix (range_with_len first (number - first)) ++ mix number ∷ [] ≡ map mix (range_with_len first ((number + 1) - first))
cells_more first number le =
    let one : (number + 1) - first ≡ (number - first) + 1 = omega arith in
    rw one (sym (map-range_with_len_more mix first (number - first) number (omega arith)))

pub opened_all : (mode : Mode) (rounds work first : ℕ) (counts : List ℕ) (i : ℕ) (strips : List StripView) → length counts ≤ i
    → strips ++ opening_strips mode rounds work first (drop i counts) ≡ strips
opened_all mode rounds work first counts i strips past = rw (drop_all i counts past) (append-nil strips)

-- what holds of all strips holds of those that are still to be made, and so of the next one
later_hold : (P : StripView → Type 0) (made later : List StripView) → All P (made ++ later) → All P later
later_hold P [] later all = all
later_hold P (strip ∷ made) later all = later_hold P made later (All-tail P strip (made ++ later) all)

pub next_holds : (P : StripView → Type 0) (mode : Mode) (rounds work first : ℕ) (counts : List ℕ) (i : ℕ) (strips whole : List StripView) → i < length counts
    → strips ++ opening_strips mode rounds work first (drop i counts) ≡ whole → All P whole → P (opening_strip mode rounds work (opening_cells first (get_or counts i 0)))
next_holds P mode rounds work first counts i strips whole lt split all =
    let later = later_hold P strips (opening_strips mode rounds work first (drop i counts)) (subst (All P) (sym split) all) in
    let count = get_or counts i 0 in
    All-head P (opening_strip mode rounds work (opening_cells first count)) (opening_strips mode rounds work (first + count) (drop (suc i) counts))
    (subst (λ (cs : List ℕ). All P (opening_strips mode rounds work first cs)) (drop-cons counts i 0 lt) later)

-- the cells of the strips that are still to be made, without those of the next one
pub cells_left : (counts : List ℕ) (i : ℕ) → i < length counts → sum_by (λ n. n) (drop i counts) ≡ get_or counts i 0 + sum_by (λ n. n) (drop (i + 1) counts)
cells_left counts i lt = rw (drop-cons counts i 0 lt, add-one i) (sum_by-cons (λ n. n) (get_or counts i 0) (drop (suc i) counts))

-- all strips were made, of which each is one
pub all_made : (mode : Mode) (rounds work first : ℕ) (counts : List ℕ) (i : ℕ) (strips : List StripView) → length counts ≤ i → first < 2 ^ 64
    → strips ++ opening_strips mode rounds work first (drop i counts) ≡ opening_strips mode rounds work 0 counts → All (λ s. is_strip s ≡ true) strips
    → first + sum_by (λ n. n) (drop i counts) ≡ sum_by (λ n. n) counts → IsChain mode rounds work counts
all_made mode rounds work first counts i strips past fits is each many =
    let whole : strips ≡ opening_strips mode rounds work 0 counts = sym (opened_all mode rounds work first counts i strips past) ∙ is in
    let none : sum_by (λ (n : ℕ). n) (drop i counts) ≡ 0 = ap (sum_by (λ (n : ℕ). n)) (drop_all i counts past) in
    record { strips = subst (All (λ s. is_strip s ≡ true)) whole each; cells = omega (arith, many, none, fits) }

-- the next one is none
pub not_chain : (mode : Mode) (rounds work first end : ℕ) (counts : List ℕ) (i : ℕ) (strips : List StripView) → i < length counts → end ≡ first + get_or counts i 0
    → strips ++ opening_strips mode rounds work first (drop i counts) ≡ opening_strips mode rounds work 0 counts
    → is_strip (opening_strip mode rounds work (opening_cells first (end - first))) ≡ false → ¬ (IsChain mode rounds work counts)
not_chain mode rounds work first end counts i strips lt many is off chain =
    let on = next_holds (λ s. is_strip s ≡ true) mode rounds work first counts i strips (opening_strips mode rounds work 0 counts) lt is chain.strips in
    let same : end - first ≡ get_or counts i 0 = omega (arith, many) in
    is_both (sym on ∙ subst (λ (n : ℕ). is_strip (opening_strip mode rounds work (opening_cells first n)) ≡ false) same off)
  where
    is_both : true ≡ false → ⊥
    is_both e = cc

-- what follows from what is known of an error
pub of_error : {T E : Type 0} (P Q : E → Type 0) (r : Result T E) → IsErrAnd r P → ((e : E) → P e → Q e) → IfErr r Q
of_error P Q (Ok x) known so = tt
of_error P Q (Err e) known so = so e known
