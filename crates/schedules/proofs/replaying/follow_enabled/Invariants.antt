use Rattle.std.proofs.Common.{◌≡◌, ◌≤◌, length, take}
use Rattle.courses.specs.Picks.{Picks}
use Rattle.schedules.proofs.replaying.follow_enabled.Given as goal

abbrev pub invariant-loop-event : goal.invariant-loop-event
invariant-loop-event g l = record {
  strategy : l.course.strategy ≡ l.initial.course.strategy;
  picks : Picks g.C.Chare.step g.C.Pup.pack g.C.Pup.unpack l.initial.course.world (take l.event-index l.events) l.course.steps l.course.world;
  few : length l.course.steps ≤ l.event-index;
}
