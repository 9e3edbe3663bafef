use Rattle.std.proofs.Common.{◌≡◌, take}
use Rattle.courses.specs.Courses.{events_of}
use Rattle.schedules.proofs.replaying.follow.Given as goal

abbrev pub invariant-loop-event : goal.invariant-loop-event
invariant-loop-event g l = record {
  strategy : l.course.strategy ≡ l.initial.course.strategy;
  happened : events_of l.course.steps ≡ take l.event-index l.events;
}
