use Rattle.std.proofs.Common.{◌∙◌, ℕ, List, length, sym, subst}
use Rattle.courses.specs.Courses.{Leads, Made}
use Rattle.rts_core.specs.Worlds.{opening_world}
use Rattle.schedules.specs.Replays.{StopsAt}
use Rattle.schedules.proofs.Endings.{done_then, list_ended}
use Rattle.schedules.proofs.replaying.replay_as.Goals as goal

pub leave-requires : goal.leave-requires
leave-requires g c =
    record { done = done_then g.C.Chare.step g.C.Pup.pack g.C.Chare.refuses g.C.Pup.unpack c.follow.new.course.world _ _ c.in-Some.ending c.in-Some.ensures.ends }

pub returns-in_ok-leave-in-Some-clause-ends : goal.returns-in_ok-leave-in-Some-clause-ends
returns-in_ok-leave-in-Some-clause-ends g c =
    list_ended g.C.Chare.step g.C.Pup.pack g.C.Chare.refuses g.C.Pup.unpack c.in_ok-leave-in-Some.field-0 c.follow.new.course c.in-Some.ending
    c.in_ok-leave-in-Some.ensures.world c.in_ok-leave-in-Some.ensures.steps c.in_ok-leave-in-Some.ensures.refused c.in_ok-leave-in-Some.ensures.fault c.in-Some.ensures.ends

pub returns-in-None-clause-refused : goal.returns-in-None-clause-refused
returns-in-None-clause-refused g c =
    let k = c.follow.new.course in (
      k,
      subst (λ (p : ℕ). Leads g.C.Chare.step g.C.Pup.pack g.C.Pup.unpack (opening_world p g.H.Openings.opened k.strategy) k.steps k.world) (sym c.requires.run) c.steps.ensures.led,
      c.in-None.ensures.strategy ∙ c.in_ok-course.ensures.strategy,
      subst (λ (s : List Made). StopsAt g.C.Chare.step g.C.Pup.pack g.C.Pup.unpack c.args.events.now k (length s)) (sym c.steps.ensures.value) c.in-None.ensures.stops,
    )
