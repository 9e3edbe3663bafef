use Rattle.std.proofs.Common.{rules}
use Rattle.schedules.proofs.Counting.{balanced}
use Rattle.schedules.proofs.exploring.is_over.Goals as goal

pub returns-else-is_balanced : goal.returns-else-is_balanced
returns-else-is_balanced g c =
    let course = c.args.course.now in
    let over =
    balanced g.C.Chare.step g.C.Pup.pack g.C.Pup.unpack g.H.Openings.pes g.H.Openings.opened course.strategy c.requires.some_pe course.steps course.world c.args.letters
    c.steps-led.ensures.led c.requires.counts in
    search (rules, over)
