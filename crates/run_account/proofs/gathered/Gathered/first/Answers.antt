use Rattle.run_account.proofs.Gathering.{gathered_first}
use Rattle.run_account.proofs.gathered.Gathered.first.Goals as goal

pub invariant_of-result : goal.invariant_of-result
invariant_of-result g c =
    rw (c.push_reserved.ensures.items, c.requires.empty, c.into_end.ensures.value, c.into_parts-pe.ensures.pe, c.into_parts-pe.ensures.seat)
    (gathered_first g.C.Chare.step g.C.Pup.fits g.C.Pup.pack g.H.Openings.opened g.H.Openings.pes g.J.RunBeginning.beginning c.args.first.pe
    c.args.first.seat c.into_parts-pe.ensures.tied (rw c.into_parts-pe.ensures.pe at c.into_end.ensures.histories) c.requires.first)
