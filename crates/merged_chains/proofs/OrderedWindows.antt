-- When lists are the bounds of windows in order.
use Rattle.std.proofs.Common.{◌≡◌, ℕ, ◌+◌, ◌<◌, ◌≤◌, Bool, true, false, List, length, slice_index, MatchBool, arith}
use Rattle.std.specs.List.Sorted.{IsNonDecreasing}
use Rattle.lb_certificates.specs.Flaws.{Falls}
use Rattle.merged_chains.specs.Windows.{AreOrdered}

pub not_rising : (numbers : List ℕ) → Falls numbers → ¬ (IsNonDecreasing numbers)
not_rising numbers (i, inside, falls) rises =
    absurd (omega (arith, falls, rises i (i + 1) 0 (omega arith) inside))

pub ordered_answer : (lower upper : List ℕ) (answer : Bool) → length lower ≡ length upper → IsNonDecreasing lower → IsNonDecreasing upper
    → MatchBool answer ((k : ℕ) → k < length lower → slice_index lower k ≤ slice_index upper k)
    ((k : ℕ) × (k < length lower) × (slice_index upper k < slice_index lower k)) → MatchBool answer (AreOrdered lower upper) (¬ (AreOrdered lower upper))
ordered_answer lower upper true paired lower_rises upper_rises some =
    record { paired = paired; lower_rises = lower_rises; upper_rises = upper_rises; some_element = some }
ordered_answer lower upper false paired lower_rises upper_rises (k, inside, empty) =
    λ ordered. absurd (omega (arith, empty, ordered.some_element k inside))
