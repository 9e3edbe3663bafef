use Rattle.std.proofs.Common.{◌≡◌, ◌∷◌, get_or, map}
use Rattle.std.specs.List.{fold, range_with_len}
use Rattle.reductions.specs.Combining.{greatest_f64}
use Rattle.heat_rod.specs.declared.sweep.TheConstants.{STILL}
use Rattle.heat_rod.specs.Sweeps.{change_at, next_at}
use Rattle.heat_rod.proofs.sweep.stepped.Given as goal

-- the cell before, and the cells so far with the greatest of their changes
abbrev pub invariant-loop-i : goal.invariant-loop-i
invariant-loop-i g l =
    record {
      beside : l.before ≡ get_or (l.left ∷ l.cells) l.i l.left;
      cells : l.next.items ≡ map (next_at l.left l.cells l.right) (range_with_len 0 l.i);
      change : l.most ≡ fold greatest_f64 STILL (map (change_at l.left l.cells l.right) (range_with_len 0 l.i));
    }
