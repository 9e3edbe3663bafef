use Rattle.std.proofs.Common.{◌≡◌, ℕ, ◌<◌}
use Rattle.schedules.specs.Choices.{KnowsElement}
use Rattle.schedules.proofs.choices.Choices.see_elements.Given as goal

abbrev pub invariant-loop-number : goal.invariant-loop-number
invariant-loop-number g l = record {
  only : l.self ≡ record l.initial.self { elements = l.self.elements };
  knows : (k : ℕ) → k < l.number → KnowsElement l.world l.self k;
}
