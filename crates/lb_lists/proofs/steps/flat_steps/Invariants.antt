use Rattle.std.proofs.Common.{◌≡◌, take}
use Rattle.lb_lists.specs.Steps.{all_steps, first_steps, places_of, rises_of}
use Rattle.lb_lists.proofs.steps.flat_steps.Given as goal

abbrev pub invariant-loop-row : goal.invariant-loop-row
invariant-loop-row g l =
    record {
      starts : l.starts.items ≡ first_steps 0 (take l.row-index l.rows);
      places : l.places.items ≡ places_of (all_steps (take l.row-index l.rows));
      rises : l.rises.items ≡ rises_of (all_steps (take l.row-index l.rows));
    }
