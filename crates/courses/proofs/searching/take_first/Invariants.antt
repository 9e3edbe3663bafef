use Rattle.std.proofs.Common.{◌≡◌, take}
use Rattle.courses.specs.Searches.{NoneEnabled}
use Rattle.courses.proofs.searching.take_first.Given as goal

abbrev pub invariant-loop-event : goal.invariant-loop-event
invariant-loop-event g l = record {
  same : l.course ≡ l.initial.course;
  none : NoneEnabled g.C.Chare.step g.C.Pup.pack g.C.Pup.unpack l.initial.course.world (take l.event-index l.events);
}
