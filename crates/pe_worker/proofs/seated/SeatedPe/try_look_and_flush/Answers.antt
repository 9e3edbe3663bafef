use Rattle.std.proofs.Common.{rules}
use Rattle.pe_worker.proofs.Keeping.{keeps_looked_sent, keeps_looked_back}
use Rattle.pe_worker.proofs.seated.SeatedPe.try_look_and_flush.Goals as goal

pub invariant_of-self : goal.invariant_of-self
invariant_of-self g c = rw (c.look_and_flush-parcel.ensures.ok, c.in_default.ensures.ok)
    (keeps_looked_sent g.C.Chare.step g.C.Pup.fits g.C.Pup.pack g.C.Pup.unpack g.H.Openings.opened g.H.Openings.pes
    g.J.RunBeginning.beginning c.self.inside.pe c.self.inside.seat c.self.invariant c.known.ensures.keyed c.known.ensures.histories
    c.look-to.result c.look_and_flush-parcel.result (search rules) c.look_and_flush-parcel.ensures.value)

pub invariant_of-self-2 : goal.invariant_of-self-2
invariant_of-self-2 g c = rw (c.hand_back.ensures.ok, c.look_and_flush-parcel.ensures.ok, c.in-Err.ensures.err, c.in-Err.ensures.back)
    (keeps_looked_back g.C.Chare.step g.C.Pup.fits g.C.Pup.pack g.C.Pup.unpack g.H.Openings.opened g.H.Openings.pes
    g.J.RunBeginning.beginning c.self.inside.pe c.self.inside.seat c.self.invariant c.known.ensures.keyed c.known.ensures.histories
    c.look-to.result c.look_and_flush-parcel.result c.look_and_flush-parcel.ensures.value)
