use Rattle.std.proofs.Common.{◌∙◌, length, sym, ap}
use Rattle.schedules.proofs.Drawings.{found_counted}
use Rattle.schedules.proofs.drawing.find_step.Goals as goal

pub look_again-requires : goal.look_again-requires
look_again-requires g c =
    record {
      counted =
          found_counted g.C.Chare.step g.C.Pup.pack g.C.Pup.unpack c.args.course.now c.take_any.new.course c.in_ok-take_any.field-0 _ c.args.chooser.now.choices c.requires.knows
          c.if-not-branch.false c.in_ok-take_any.ensures.found
          ∙ ap (λ w. length w.pes) (sym c.world.ensures.value);
    }
