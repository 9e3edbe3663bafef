use Rattle.std.proofs.Common.{◌≡◌, ◌∙◌, ◌-◌, Some, length, slice_get, sym, ap}
use Rattle.std.specs.Option.{option_copied}
use Rattle.courses.specs.Courses.{Made}
use Rattle.schedules.specs.Choices.{put_into}
use Rattle.schedules.proofs.Drawings.{rest_at, taken_rest}
use Rattle.schedules.proofs.drawing.take_drawn.Goals as goal

pub see-requires : goal.see-requires
see-requires g c =
    let after = c.take.new.self in
    let made : Made = c.unwrap.result.now in
    let got : slice_get after.steps (length after.steps - 1) ≡ Some made =
    ap (λ l. slice_get l (length l - 1)) (sym c.steps.ensures.value) ∙ (sym c.last.ensures.value ∙ ap (λ o. option_copied o) c.unwrap.ensures) in
    let rest =
    taken_rest g.C.Chare.step g.C.Pup.pack g.C.Pup.unpack c.args.course.now after c.in-Some.event made c.in_ok-take.field-0 _ c.args.chooser.now.choices c.requires.knows
    c.if-not-branch.false c.in_ok-take.ensures.taken got in
    record {
      rest =
          rest_at c.in-Some.event after.world c.world-3.result.now c.args.chooser.now.choices c.draw.new.self.choices (put_into c.args.course.now.world c.in-Some.event)
          c.goes_to-to.result made.1 c.entries-entries.result.now c.world-3.ensures.value (ap (λ v. v.choices) c.draw.ensures.only)
          (c.goes_to-to.ensures.value ∙ ap (λ w. put_into w c.in-Some.event) c.world-2.ensures.value) c.entries-entries.ensures.value rest;
    }
