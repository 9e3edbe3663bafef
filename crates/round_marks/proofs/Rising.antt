-- The marks of an element, one after the other: each resumption is after a later round than those before.
use Rattle.std.proofs.Common.{◌↔◌, ℕ, zero, suc, ◌+◌, ◌<◌, ◌≤◌, List, [], ◌∷◌, length, add-one, arith}
use Rattle.std.specs.Prelude.{slice_index}
use Rattle.std.specs.List.Sorted.{IsStrictlyIncreasing}
use Rattle.chares.specs.declared.note.Mark.{Mark}
use Rattle.chares.specs.declared.note.Mark.TheVariants.{Synced, Resumed}
use Rattle.round_marks.specs.Marked.{rounds_resumed}

-- numbers that rise, from the least on
abbrev pub Rise : ℕ → List ℕ → Type 0
Rise least [] = Unit {0}
Rise least (x ∷ xs) = (least ≤ x) × Rise (x + 1) xs

increasing : (least : ℕ) (xs : List ℕ) → Rise least xs → (k : ℕ) → k + 1 < length xs → slice_index xs k < slice_index xs (k + 1)
increasing least [] h k within = absurd (omega (arith, within))
increasing least (x ∷ []) h k within = absurd (omega (arith, within))
increasing least (x ∷ y ∷ xs) h zero within = omega (arith, h.1.0)
increasing least (x ∷ y ∷ xs) h (suc k) within =
    simp add-one (simp add-one at (increasing (x + 1) (y ∷ xs) h.1 k (omega (arith, within))))

rising : (least x : ℕ) (xs : List ℕ) → least ≤ x → IsStrictlyIncreasing (x ∷ xs) → Rise least (x ∷ xs)
rising least x [] low h = (low, tt)
rising least x (y ∷ xs) low h =
    let next : x < y = h 0 (omega arith) in
    (low, rising (x + 1) y xs (omega (arith, next)) (λ k within. simp add-one (simp add-one at (h (suc k) (omega (arith, within))))))

-- from 0 on, nothing else is required of them
pub rise_from_0 : (xs : List ℕ) → Rise 0 xs ↔ IsStrictlyIncreasing xs
rise_from_0 [] = (increasing 0 [], λ h. tt)
rise_from_0 (x ∷ xs) = (increasing 0 (x ∷ xs), rising 0 x xs (omega arith))

-- so do the rounds after which an element is resumed from these marks on
abbrev pub Resumes : ℕ → List Mark → Type 0
Resumes least [] = Unit {0}
Resumes least (Synced note ∷ marks) = Resumes least marks
Resumes least (Resumed round pe ∷ marks) = (least ≤ round) × Resumes (round + 1) marks

pub rise_on : (least : ℕ) (marks : List Mark) → Resumes least marks → Rise least (rounds_resumed marks)
rise_on least [] h = tt
rise_on least (Synced note ∷ marks) h = rise_on least marks h
rise_on least (Resumed round pe ∷ marks) h = (h.0, rise_on (round + 1) marks h.1)

pub resumes_on : (least : ℕ) (marks : List Mark) → Rise least (rounds_resumed marks) → Resumes least marks
resumes_on least [] h = tt
resumes_on least (Synced note ∷ marks) h = resumes_on least marks h
resumes_on least (Resumed round pe ∷ marks) h = (h.0, resumes_on (round + 1) marks h.1)
