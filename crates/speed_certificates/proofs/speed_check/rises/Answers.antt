use Rattle.std.proofs.Common.{ℕ, ◌+◌, ◌<◌, Bool, true, false, List, length, get_or, MatchBool}
use Rattle.std.specs.List.Sorted.{IsNonDecreasing}
use Rattle.std.proofs.lemmas.List.Sorted.{non_decreasing_from_is_sorted}
use Rattle.lb_certificates.specs.Flaws.{Falls}
use Rattle.speed_certificates.proofs.speed_check.rises.Goals as goal

answer : (xs : List ℕ) (r : Bool) → MatchBool r (IsNonDecreasing xs)
    ((k : ℕ) × (k + 1 < length xs) × ((d : ℕ) → get_or xs (k + 1) d < get_or xs k d)) → MatchBool r (IsNonDecreasing xs) (Falls xs)
answer xs true rising = rising
answer xs false found = (found.0, found.1, found.2 0)

pub returns : goal.returns
returns c =
    answer c.args.numbers.now c.is_sorted.result (non_decreasing_from_is_sorted c.args.numbers.now c.is_sorted.result c.is_sorted.ensures.cases)
