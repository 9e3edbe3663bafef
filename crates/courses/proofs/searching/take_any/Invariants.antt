use Rattle.std.proofs.Common.{◌≡◌, ◌<◌, ℕ}
use Rattle.courses.specs.Searches.{IsQuiet}
use Rattle.courses.proofs.searching.take_any.Given as goal

abbrev pub invariant-loop-number : goal.invariant-loop-number
invariant-loop-number g l = record {
  same : l.course ≡ l.initial.course;
  quiet : (q : ℕ) → q < l.number → IsQuiet g.C.Chare.step g.C.Pup.pack g.C.Pup.unpack l.initial.course.world q;
}
