use Rattle.std.proofs.Common.{◌∙◌, List, ◌∷◌, [], ap, arith, length, length-append, subst}
use Rattle.courses.specs.Courses.{Made, trace_of}
use Rattle.schedules.specs.Choices.{turn_of}
use Rattle.schedules.specs.Counting.{Counts}
use Rattle.schedules.proofs.Drawings.{drawn_next, where_taken}
use Rattle.schedules.proofs.exploring.draw_steps.Goals as goal

pub loop-step-preserved : goal.loop-step-preserved
loop-step-preserved g c =
    let at = c.loop-step in
    let is = c.in-Ok-true.field-0-test in
    let did = c.in-Ok-true.ensures in
    let one = where_taken _ _ c.in-Ok-true.field-0 is did.drawn in
    let more = length-append at.course.steps (one.0 ∷ []) in
    record {
      strategy = did.strategy ∙ at.invariant.strategy;
      many = omega (arith, ap length one.1, more, at.invariant.many);
      bias = did.bias ∙ at.invariant.bias;
      knows = where_taken _ _ c.in-Ok-true.field-0 is did.idle;
      counts = subst (λ (s : List Made). Counts (trace_of s) c.with_last-letters.result) c.steps.ensures.value
          (c.with_last-letters.ensures.counts at.course.steps one.0 (c.steps.ensures.value ∙ one.1) at.invariant.counts);
      drawn =
          drawn_next g.C.Chare.step g.C.Pup.pack g.C.Pup.unpack c.args.chooser.now.bias (turn_of c.args.course.now.world c.args.chooser.now)
          at.course c.draw_step.new.course at.chooser
          c.draw_step.new.chooser c.in-Ok-true.field-0 _ at.invariant.bias at.invariant.drawn is did.drawn;
    }
