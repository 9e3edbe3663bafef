use Rattle.std.proofs.Common.{◌∙◌, ◌≤◌, List, ap, arith, length, subst}
use Rattle.chare_index.specs.declared.limits.TheConstants.Limits.{ELEMENTS, PES}
use Rattle.rts_core.specs.Worlds.{opening_world}
use Rattle.schedules.specs.Choices.{Knows}
use Rattle.schedules.proofs.DrawnRuns.{drawn_left}
use Rattle.schedules.proofs.Endings.{done_then, run_left}
use Rattle.schedules.proofs.Opened.{open_pes, open_words}
use Rattle.schedules.proofs.exploring.explore_as.Goals as goal

pub new-requires-2 : goal.new-requires-2
new-requires-2 g c =
    let opens = c.world.ensures.value ∙ c.in_ok-course.ensures.world in
    let few : length g.H.Openings.opened ≤ ELEMENTS = subst (λ (cs : List g.row.C.Denot). length cs ≤ ELEMENTS) c.requires.opened c.requires.may.1 in
    record {
      few_pes = open_pes g.H.Openings.pes g.H.Openings.opened c.args.schedule.now.strategy c.world.result.now opens PES (omega (arith, c.requires.may.0.1, c.requires.run));
      few = open_words g.H.Openings.pes g.H.Openings.opened c.args.schedule.now.strategy c.world.result.now opens ELEMENTS few;
    }

pub draw_steps-ending-requires : goal.draw_steps-ending-requires
draw_steps-ending-requires g c =
    record {
      some_pe = omega (arith, c.requires.may.0.0, c.requires.run);
      fresh = c.in_ok-course.ensures.steps;
      knows = subst (λ w. Knows w c.in_ok-chooser.chooser.choices) c.world.ensures.value c.in_ok-chooser.ensures.knows;
    }

pub leave-requires : goal.leave-requires
leave-requires g c =
    let ending = c.draw_steps-ending in
    record { done = done_then g.C.Chare.step g.C.Pup.pack g.C.Chare.refuses g.C.Pup.unpack ending.new.course.world _ _ ending.result ending.ensures.ends }

pub returns-clause-ends : goal.returns-clause-ends
returns-clause-ends g c =
    let ending = c.draw_steps-ending in
    run_left g.C.Chare.step g.C.Pup.pack g.C.Chare.refuses g.C.Pup.unpack ending.new.course ending.result c.leave.result c.args.schedule.now.steps
    c.leave.ensures.world c.leave.ensures.steps c.leave.ensures.refused c.leave.ensures.fault ending.ensures.ends

pub returns-clause-drawn : goal.returns-clause-drawn
returns-clause-drawn g c =
    let ending = c.draw_steps-ending in
    let first = c.in_ok-chooser.ensures in
    drawn_left g.C.Chare.step g.C.Pup.pack g.C.Pup.unpack c.args.schedule.now.bias c.args.seed (opening_world g.H.Openings.pes g.H.Openings.opened c.args.schedule.now.strategy)
    c.in_ok-course.course ending.new.course c.in_ok-chooser.chooser ending.result c.leave.result first.bias first.state (first.places ∙ ap (λ w. w.words) c.world.ensures.value)
    c.in_ok-course.ensures.world c.leave.ensures.world c.leave.ensures.steps c.leave.ensures.refused ending.ensures.drawn
