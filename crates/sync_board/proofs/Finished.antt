-- Who has finished: how many elements have not, and whether some element has not.
use Rattle.std.proofs.Common.{◌≡◌, ◌∙◌, ℕ, suc, zero, ◌+◌, Bool, true, false, not, cond, List, [], ◌∷◌, get_or, replicate, set, refl, ap, sym, arith}
use Rattle.std.specs.Prelude.{All, IsTrue, count_by}
use Rattle.std.proofs.lemmas.List.Sums.{sum_by-cons}
use Rattle.std.proofs.lemmas.List.{set-get_or}
use Rattle.std.proofs.lemmas.List.Folds.{sum_by-replicate}

-- how many have not finished, element by element
count_finished : (finished : List Bool) → count_by not (true ∷ finished) ≡ 0 + count_by not finished
count_finished finished = sum_by-cons (λ b. cond (not b) 1 0) true finished

count_running : (finished : List Bool) → count_by not (false ∷ finished) ≡ 1 + count_by not finished
count_running finished = sum_by-cons (λ b. cond (not b) 1 0) false finished

-- none is counted where all have finished
pub none_running : (finished : List Bool) → All IsTrue finished → count_by not finished ≡ 0
none_running [] all = refl
none_running (false ∷ finished) all =
    let done : IsTrue (get_or (false ∷ finished) 0 true) = all 0 true (omega arith) in
    cc
none_running (true ∷ finished) all =
    omega (arith, count_finished finished, none_running finished (λ k d inside. all (suc k) d (omega arith)))

-- all have finished where none is counted
pub all_finished : (finished : List Bool) → count_by not finished ≡ 0 → All IsTrue finished
all_finished [] none k d inside = absurd (omega arith)
all_finished (false ∷ finished) none k d inside = absurd (omega (arith, none, count_running finished))
all_finished (true ∷ finished) none zero d inside = refl
all_finished (true ∷ finished) none (suc k) d inside =
    all_finished finished (omega (arith, none, count_finished finished)) k d (omega arith)

-- nothing changes where an element finishes again
pub set_again : (finished : List Bool) (i : ℕ) (d : Bool) → get_or finished i d ≡ true → set finished i true ≡ finished
set_again finished i d done = ap (set finished i) (sym done) ∙ set-get_or finished i d

-- where no element has finished, all are counted
pub count_all : (n : ℕ) → n ≡ count_by not (replicate n false)
count_all n = omega (arith, sum_by-replicate (λ b. cond (not b) 1 0) n false)
