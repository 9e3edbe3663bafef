use Rattle.std.proofs.Common.{◌≡◌, take}
use Rattle.schedules.specs.Draws.{settled}
use Rattle.schedules.proofs.choices.Choices.settle.Given as goal

abbrev pub invariant-loop-entry : goal.invariant-loop-entry
invariant-loop-entry g l = l.self ≡ record l.initial.self { places = settled l.p l.initial.self.places (take l.entry-index l.entries) }
