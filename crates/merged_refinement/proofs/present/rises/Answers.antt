use Rattle.std.proofs.Common.{ℕ, ◌+◌, ◌<◌, Bool, true, false, List, length, get_or, MatchBool}
use Rattle.std.specs.List.Sorted.{IsNonDecreasing}
use Rattle.std.proofs.lemmas.List.Sorted.{non_decreasing_from_is_sorted}
use Rattle.merged_chains.proofs.OrderedWindows.{not_rising}
use Rattle.merged_refinement.proofs.present.rises.Goals as goal

answer : (xs : List ℕ) (r : Bool) → MatchBool r (IsNonDecreasing xs) ((k : ℕ) × (k + 1 < length xs) × ((d : ℕ) → get_or xs (k + 1) d < get_or xs k d))
    → MatchBool r (IsNonDecreasing xs) (¬ (IsNonDecreasing xs))
answer xs true rising = rising
answer xs false found = λ ordered. not_rising xs (found.0, found.1, found.2 0) ordered

pub returns : goal.returns
returns c =
    answer c.args.numbers.now c.is_sorted.result (non_decreasing_from_is_sorted c.args.numbers.now c.is_sorted.result c.is_sorted.ensures.cases)
