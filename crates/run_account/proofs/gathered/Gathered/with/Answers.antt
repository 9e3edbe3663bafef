use Rattle.std.proofs.Common.{rules}
use Rattle.run_account.proofs.Gathering.{gathered_more}
use Rattle.run_account.proofs.gathered.Gathered.with.Goals as goal

pub invariant_of-result : goal.invariant_of-result
invariant_of-result g c =
    rw (c.push_reserved.ensures.items, c.join-seat.ensures.both, c.into_end.ensures.value, c.into_parts-pe.ensures.pe, c.into_parts-pe.ensures.seat)
    (gathered_more g.C.Chare.step g.C.Pup.fits g.C.Pup.pack g.H.Openings.opened g.H.Openings.pes g.J.RunBeginning.beginning
    c.self.inside.ends.items c.self.inside.seat c.args.next.pe c.args.next.seat c.self.invariant c.into_parts-pe.ensures.tied
    (rw c.into_parts-pe.ensures.pe at c.into_end.ensures.histories) (search rules))
