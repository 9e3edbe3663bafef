use Rattle.pe_worker.proofs.Keeping.{keeps_new}
use Rattle.pe_worker.proofs.seated.SeatedPe.new.Goals as goal

pub invariant_of-result : goal.invariant_of-result
invariant_of-result g c =
    keeps_new g.C.Chare.step g.H.Openings.opened g.H.Openings.pes g.J.RunBeginning.beginning c.args.pe c.args.seat c.requires.share
    c.requires.start c.requires.seat c.requires.served
