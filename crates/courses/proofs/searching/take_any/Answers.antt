use Rattle.std.proofs.Common.{arith}
use Rattle.courses.proofs.Idle.{last_tried}
use Rattle.courses.proofs.searching.take_any.Goals as goal

pub returns-in-Ok-clause-found : goal.returns-in-Ok-clause-found
returns-in-Ok-clause-found g c =
    let at = c.loop-number in
    last_tried g.C.Chare.step g.C.Pup.pack g.C.Pup.unpack c.args.course.now at.course c.take.new.self at.invariant.same
    (λ q within. at.invariant.quiet q (omega (arith, within, c.loop-number-test.false, c.pes-pes.ensures.value))) c.in-Ok.found c.in-Ok.ensures.taken
