use Rattle.run_checkpoint.specs.declared.error.CheckpointError.TheVariants.{OutOfMemory}
use Rattle.run_checkpoint.proofs.WholeText.{handed_on, nothing_read, shown}
use Rattle.run_checkpoint.proofs.whole.read_whole.Goals as goal

pub returns-in_err-resize-clause-stopped : goal.returns-in_err-resize-clause-stopped
returns-in_err-resize-clause-stopped g c =
    let old = g.R.Read.remaining c.args.reader.now in
    shown old old OutOfMemory c.from_residual.result c.from_residual.ensures.1 (nothing_read old)

pub returns-in_err-read_onto-clause-stopped : goal.returns-in_err-read_onto-clause-stopped
returns-in_err-read_onto-clause-stopped g c =
    shown (g.R.Read.remaining c.args.reader.now) (g.R.Read.remaining c.read_onto.new.reader) c.in_err-read_onto.field-0.0 c.from_residual-in_err-read_onto.result
    c.from_residual-in_err-read_onto.ensures.1 c.in_err-read_onto.ensures.stopped

pub returns-in_err-read_onto-clause-failed : goal.returns-in_err-read_onto-clause-failed
returns-in_err-read_onto-clause-failed g c =
    handed_on _ c.in_err-read_onto.field-0.0 _ c.from_residual-in_err-read_onto.ensures.1 c.in_err-read_onto.ensures.failed
