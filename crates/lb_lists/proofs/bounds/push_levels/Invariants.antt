use Rattle.std.proofs.Common.{ℕ, ◌++◌, List, take}
use Rattle.lb_lists.specs.Reorderings.{AreFlat}
use Rattle.lb_lists.proofs.bounds.push_levels.Given as goal

abbrev pub invariant-loop-row : goal.invariant-loop-row
invariant-loop-row g l =
    (before : List (List (ℕ × ℕ))) → AreFlat before l.initial.starts.items l.initial.places.items l.initial.rises.items
    → AreFlat (before ++ take l.row-index l.rows) l.starts.items l.places.items l.rises.items
