use Rattle.std.proofs.Common.{◌≡◌, length}
use Rattle.courses.specs.Courses.{trace_of}
use Rattle.schedules.specs.Choices.{Knows, turn_of}
use Rattle.schedules.specs.Counting.{Counts}
use Rattle.schedules.specs.Draws.{DrawsAll}
use Rattle.schedules.proofs.exploring.draw_steps.Given as goal

abbrev pub invariant-loop-step : goal.invariant-loop-step
invariant-loop-step g l = record {
  strategy : l.course.strategy ≡ l.initial.course.strategy;
  many : length l.course.steps ≡ l._step;
  bias : l.chooser.bias ≡ l.initial.chooser.bias;
  knows : Knows l.course.world l.chooser.choices;
  counts : Counts (trace_of l.course.steps) l.letters;
  drawn : DrawsAll g.C.Chare.step g.C.Pup.pack g.C.Pup.unpack l.initial.chooser.bias (turn_of l.initial.course.world l.initial.chooser)
      l.course.steps (turn_of l.course.world l.chooser);
}
