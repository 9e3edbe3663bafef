use Rattle.std.proofs.Common.{◌≡◌, ◌++◌, length, take, drop}
use Rattle.hot_spot_strip.specs.Cells.{computed}
use Rattle.hot_spot_strip.proofs.cells.compute.Given as goal

-- the cells that were computed, and what the others will be, are the whole
abbrev pub invariant-loop-i : goal.invariant-loop-i
invariant-loop-i l =
    record {
      counted : l.i-end ≡ length l.cells;
      whole : take l.i l.cells ++ computed l.rounds l.left (drop l.i l.cells) l.after ≡ computed l.rounds l.before l.initial.cells l.after;
    }
