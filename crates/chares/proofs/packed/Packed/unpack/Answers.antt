use Rattle.std.proofs.Common.{sym, subst}
use Rattle.chares.specs.Elements.{PackedView, IsPackedHistory}
use Rattle.chares.proofs.Histories.{history_unpacked, packed_whole}
use Rattle.chares.proofs.packed.Packed.unpack.Goals as goal

pub returns-in-Ok-clause-history : goal.returns-in-Ok-clause-history
returns-in-Ok-clause-history g c =
    let u = rw (c.as_slice.ensures.value, c.deref.ensures) at c.in-Ok.ensures.answer in
    let consistent = subst (λ (p : PackedView). IsPackedHistory g.C.Chare.step g.C.Pup.fits g.C.Pup.pack g.H.Openings.opened p) (sym c.self.view_is) c.requires.consistent in
    rw (← c.self.view_is)
    (history_unpacked g.C.Chare.step g.C.Pup.fits g.C.Pup.counted g.C.Pup.pack g.C.Pup.unpack g.H.Openings.opened _ c.in-Ok.chare
    c.in-Ok.field-0-1 g.met.C.Pup.round_trip g.met.C.Chare.packs consistent u)

pub returns-in-Ok-clause-unpacks : goal.returns-in-Ok-clause-unpacks
returns-in-Ok-clause-unpacks g c =
    let u = rw (c.as_slice.ensures.value, c.deref.ensures) at c.in-Ok.ensures.answer in
    rw (← c.self.view_is) (c.in-Ok.field-0-1, u)

pub returns-in-Ok-clause-whole : goal.returns-in-Ok-clause-whole
returns-in-Ok-clause-whole g c =
    packed_whole g.C.Chare.step g.C.Pup.fits g.C.Pup.counted g.C.Pup.pack g.C.Pup.unpack g.H.Openings.opened _ g.met.C.Pup.round_trip g.met.C.Chare.packs c.requires.consistent
