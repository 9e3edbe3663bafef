use Rattle.std.proofs.Common.{◌≡◌, take}
use Rattle.courses.specs.Courses.{events_of}
use Rattle.schedules.proofs.explored.Explored.events.Given as goal

abbrev pub invariant-loop-step : goal.invariant-loop-step
invariant-loop-step g l = l.events.items ≡ events_of (take l.step-index l.step-items)
