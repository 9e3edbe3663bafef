-- The chares as an array opens.
use Rattle.std.proofs.Common.{◌≡◌, ℕ, ◌+◌, ◌<◌, zero, suc, length, Some, slice_get, refl, ap, ◌∙◌, arith}
use Rattle.foreign_chare.specs.Scripts.{new_stamp}
use Rattle.rank_calls.specs.Runs.{Run, opening, stamps_from}

-- there are as many as elements
length_from : (i n : ℕ) → length (stamps_from i n) ≡ n
length_from i zero = refl
length_from i (suc n) = ap suc (length_from (i + 1) n)

pub opening_length : (run : Run) → length (opening run) ≡ run.n
opening_length run = length_from 0 run.n

-- and each is that of its element
get_from : (i n k : ℕ) → k < n → slice_get (stamps_from i n) k ≡ Some (new_stamp (i + k))
get_from i zero k less = absurd (omega (arith, less))
get_from i (suc n) zero less = ap (λ (j : ℕ). Some (new_stamp j)) (omega arith)
get_from i (suc n) (suc k) less = get_from (i + 1) n k (omega (arith, less)) ∙ ap (λ (j : ℕ). Some (new_stamp j)) (omega arith)

pub opening_get : (run : Run) (k : ℕ) → k < run.n → slice_get (opening run) k ≡ Some (new_stamp k)
opening_get run k less = get_from 0 run.n k less ∙ ap (λ (j : ℕ). Some (new_stamp j)) (omega arith)
