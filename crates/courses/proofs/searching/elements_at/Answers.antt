use Rattle.std.proofs.Common.{arith, sym}
use Rattle.courses.proofs.Idle.{elsewhere, nowhere}
use Rattle.courses.proofs.searching.elements_at.Goals as goal

pub returns-clause-beyond : goal.returns-clause-beyond
returns-clause-beyond g c = λ e past.
    elsewhere g.C.Chare.step g.C.Pup.pack g.C.Pup.unpack c.args.world.now c.args.p e c.in-Some.pe.now (sym c.in-Some.ensures.value)
    (nowhere g.C.Chare.step g.C.Pup.fits g.C.Pup.pack g.H.Openings.opened c.in-Some.pe.now e c.known.ensures.histories c.known.ensures.keyed
    (omega (arith, past, c.n.ensures.array)))
