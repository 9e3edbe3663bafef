use Rattle.std.proofs.Common.{◌≡◌, ◌++◌, take}
use Rattle.lb_lists.specs.Steps.{places_of, rises_of}
use Rattle.lb_lists.proofs.steps.push_steps.Given as goal

abbrev pub invariant-loop-step : goal.invariant-loop-step
invariant-loop-step g l =
    record {
      places : l.places.items ≡ l.initial.places.items ++ places_of (take l.step-index l.steps);
      rises : l.rises.items ≡ l.initial.rises.items ++ rises_of (take l.step-index l.steps);
    }
