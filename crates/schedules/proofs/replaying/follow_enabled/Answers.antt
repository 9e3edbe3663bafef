use Rattle.std.proofs.Common.{◌∙◌, List, Option, take, drop, suc, refl, sym, subst, arith}
use Rattle.std.proofs.lemmas.List.{take_all}
use Rattle.courses.specs.Courses.{CourseView}
use Rattle.courses.specs.Picks.{Picks, PicksUpTo}
use Rattle.courses.proofs.Picks.{picks_next}
use Rattle.rts_core.specs.declared.event.Event.{Event}
use Rattle.schedules.proofs.Endings.{taken_few, taken_strategy}
use Rattle.schedules.proofs.Lists.{refused_next}
use Rattle.schedules.proofs.replaying.follow_enabled.Goals as goal

pub loop-event-preserved : goal.loop-event-preserved
loop-event-preserved g c =
    let at = c.loop-event in
    let event = c.event-item.result in
    let did = c.in-Ok.ensures.taken in
    record {
      strategy = taken_strategy g.C.Chare.step g.C.Pup.pack g.C.Pup.unpack at.course c.take.new.self event c.in-Ok.field-0 did ∙ at.invariant.strategy;
      picks = picks_next g.C.Chare.step g.C.Pup.pack g.C.Pup.unpack c.args.course.now.world at.course c.take.new.self c.args.events.now
          at.event-index event c.in-Ok.field-0 c.loop-event-test.true c.event-item.is at.invariant.picks did;
      few = omega (arith, taken_few g.C.Chare.step g.C.Pup.pack g.C.Pup.unpack at.course c.take.new.self event c.in-Ok.field-0 did, at.invariant.few);
    }

pub returns-in-Err-clause-picks : goal.returns-in-Err-clause-picks
returns-in-Err-clause-picks g c =
    let at = c.loop-event in (
      take at.event-index c.args.events.now,
      drop (suc at.event-index) c.args.events.now,
      refused_next c.args.events.now (take at.event-index c.args.events.now) at.event-index c.event-item.result c.in-Err.refusal.event
          c.loop-event-test.true c.event-item.is c.in-Err.ensures.event refl,
      subst (λ (v : CourseView g.row.C.Denot g.row.A.Denot). Picks g.C.Chare.step g.C.Pup.pack g.C.Pup.unpack c.args.course.now.world
          (take at.event-index c.args.events.now) v.steps v.world) (sym c.in-Err.ensures.err) at.invariant.picks,
    )

pub returns-clause-picks : goal.returns-clause-picks
returns-clause-picks g c =
    let at = c.loop-event in
    let all = take_all at.event-index c.args.events.now (omega (arith, c.loop-event-test.false)) in
    subst (λ (o : Option Event). PicksUpTo g.C.Chare.step g.C.Pup.pack g.C.Pup.unpack c.args.course.now.world c.args.events.now o
    at.course.steps at.course.world) (sym c.at_last.ensures.refused)
    (subst (λ (es : List Event). Picks g.C.Chare.step g.C.Pup.pack g.C.Pup.unpack c.args.course.now.world es at.course.steps at.course.world) all at.invariant.picks)
