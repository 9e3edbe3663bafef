use Rattle.std.proofs.Common.{◌≡◌, ℕ, take, drop}
use Rattle.schedules.specs.Choices.{AreSilent, KnowsElement}
use Rattle.schedules.specs.Draws.{settled}
use Rattle.schedules.proofs.choices.Choices.see_entries.Given as goal

abbrev pub invariant-loop-entry : goal.invariant-loop-entry
invariant-loop-entry g l = record {
  only : l.self ≡ record l.initial.self { elements = l.self.elements; places = settled l.p l.initial.self.places (take l.entry-index l.entries) };
  silent : (e : ℕ) → AreSilent e (drop l.entry-index l.entries) → KnowsElement l.world l.self e;
}
