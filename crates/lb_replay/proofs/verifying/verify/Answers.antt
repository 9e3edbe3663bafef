use Rattle.lb_replay.proofs.OneEnds.{exact, one_end}
use Rattle.lb_replay.proofs.verifying.verify.Goals as goal

pub returns-clause-exact : goal.returns-clause-exact
returns-clause-exact g c =
    exact g.row.A.Denot (g.R.Read.remaining c.args.reader.now) (g.R.Read.remaining c.verify_logged.new.reader)
    (g.W.Write.contents c.args.writer.now) (g.W.Write.contents c.verify_logged.new.writer) c.verify_logged.result c.verify_logged.ensures.ends

pub returns-clause-one_end : goal.returns-clause-one_end
returns-clause-one_end g c = one_end g.row.A.Denot
