use Rattle.std.proofs.Common.{◌≡◌, length, arith}
use Rattle.courses.proofs.Sizes.{pes_led}
use Rattle.courses.proofs.course.Course.pes.Goals as goal

pub overflow_cast-result : goal.overflow_cast-result
overflow_cast-result g c =
    let counted : length c.self.inside.world.pes ≡ g.H.Openings.pes =
    pes_led g.C.Chare.step g.C.Pup.pack g.C.Pup.unpack g.H.Openings.pes g.H.Openings.opened c.self.inside.strategy c.self.inside.steps.items
    c.self.inside.world c.self.invariant.1 in
    record { fits = omega (arith, counted, c.self.invariant.0, c.pes.ensures.value) }

pub returns-clause-few : goal.returns-clause-few
returns-clause-few g c =
    let counted : length c.self.inside.world.pes ≡ g.H.Openings.pes =
    pes_led g.C.Chare.step g.C.Pup.pack g.C.Pup.unpack g.H.Openings.pes g.H.Openings.opened c.self.inside.strategy c.self.inside.steps.items
    c.self.inside.world c.self.invariant.1 in
    omega (arith, counted, c.self.invariant.0, c.pes.ensures.value)
