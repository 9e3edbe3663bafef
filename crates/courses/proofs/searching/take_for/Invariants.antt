use Rattle.std.proofs.Common.{◌≡◌, ◌<◌, ℕ}
use Rattle.courses.specs.Searches.{NoneEnabled, events_for}
use Rattle.courses.proofs.searching.take_for.Given as goal

abbrev pub invariant-loop-number : goal.invariant-loop-number
invariant-loop-number g l = record {
  same : l.course ≡ l.initial.course;
  none : (e : ℕ) → e < l.number → NoneEnabled g.C.Chare.step g.C.Pup.pack g.C.Pup.unpack l.initial.course.world (events_for l.p e);
}
