use Rattle.std.proofs.Common.{◌∙◌, subst}
use Rattle.courses.specs.Courses.{CourseView, IsEnabled}
use Rattle.courses.proofs.Idle.{none_next}
use Rattle.courses.proofs.Picks.{not_taken}
use Rattle.courses.proofs.searching.take_first.Goals as goal

pub loop-event-preserved : goal.loop-event-preserved
loop-event-preserved g c =
    let at = c.loop-event in
    let off = not_taken _ _ c.in-Ok-false.field-0 c.in-Ok-false.field-0-test c.in-Ok-false.ensures.taken in
    let here = subst (λ (v : CourseView g.row.C.Denot g.row.A.Denot). ¬
    (IsEnabled g.C.Chare.step g.C.Pup.pack g.C.Pup.unpack v.world c.event-item.result)) at.invariant.same off.0 in
    record {
      same = off.1 ∙ at.invariant.same;
      none = none_next g.C.Chare.step g.C.Pup.pack g.C.Pup.unpack c.args.course.now.world c.args.events.now at.event-index
          c.event-item.result c.loop-event-test.true c.event-item.is at.invariant.none here;
    }
