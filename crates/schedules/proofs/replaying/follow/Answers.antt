use Rattle.std.proofs.Common.{◌∙◌, length, suc, drop, refl, ap, sym, subst}
use Rattle.courses.specs.Courses.{CourseView, events_of}
use Rattle.schedules.specs.Replays.{StopsAt}
use Rattle.schedules.proofs.Lists.{happened_before, not_taken, refused_next}
use Rattle.schedules.proofs.replaying.follow.Goals as goal

pub returns-in-Ok-false-clause-stops : goal.returns-in-Ok-false-clause-stops
returns-in-Ok-false-clause-stops g c =
    let at = c.loop-event in
    let before = happened_before c.args.events.now at.course.steps at.event-index c.event-item.result c.loop-event-test.true c.event-item.is at.invariant.happened in
    let off = not_taken _ _ c.in-Ok-false.field-0 c.in-Ok-false.field-0-test c.in-Ok-false.ensures.taken in
    subst (λ (k : CourseView g.row.C.Denot g.row.A.Denot). StopsAt g.C.Chare.step g.C.Pup.pack g.C.Pup.unpack c.args.events.now k (length k.steps)) (sym off.1)
    (c.event-item.result, drop (suc at.event-index) c.args.events.now, before.0, refl, off.0)

pub returns-in-Err-clause-follows : goal.returns-in-Err-clause-follows
returns-in-Err-clause-follows g c =
    let at = c.loop-event in
    let same = ap (λ (k : CourseView g.row.C.Denot g.row.A.Denot). events_of k.steps) c.in-Err.ensures.err in (
      drop (suc at.event-index) c.args.events.now,
      refused_next c.args.events.now _ at.event-index c.event-item.result c.in-Err.refusal.event c.loop-event-test.true c.event-item.is
          c.in-Err.ensures.event (same ∙ at.invariant.happened),
    )
