use Rattle.workload.proofs.Pieces.{no_piece}
use Rattle.workload.proofs.reading.feed_all.Goals as goal

pub returns-in_err-resize-clause-stopped : goal.returns-in_err-resize-clause-stopped
returns-in_err-resize-clause-stopped g c = no_piece (g.R.Read.remaining c.args.reader.now) c.from_residual.result c.from_residual.ensures.1
