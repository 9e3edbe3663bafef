use Rattle.std.proofs.lemmas.Result.{err_from_is_err_and}
use Rattle.run_checkpoint.proofs.WholeText.{never_failed, passed_on, stopped_reading, stopped_known, stopped_end, whole_reading, whole_known, whole_end}
use Rattle.run_checkpoint.proofs.checkpoint.Checkpoint.read_from_logged.Goals as goal

pub returns-in_err-bytes-clause-read : goal.returns-in_err-bytes-clause-read
returns-in_err-bytes-clause-read g c =
    let told = err_from_is_err_and c.from_residual.result c.from_residual.ensures.1 in
    rw (told.1, told.2) (stopped_reading (g.R.Read.remaining c.args.reader.now) (g.R.Read.remaining c.read_whole.new.reader) c.in_err-bytes.field-0.0 c.in_err-bytes.ensures.stopped)

pub returns-in_err-bytes-clause-known : goal.returns-in_err-bytes-clause-known
returns-in_err-bytes-clause-known g c =
    let told = err_from_is_err_and c.from_residual.result c.from_residual.ensures.1 in
    rw (told.1, told.2) (stopped_known (g.R.Read.remaining c.args.reader.now) (g.R.Read.remaining c.read_whole.new.reader) c.in_err-bytes.field-0.0 c.in_err-bytes.ensures.stopped)

pub returns-in_err-bytes-clause-at_end : goal.returns-in_err-bytes-clause-at_end
returns-in_err-bytes-clause-at_end g c =
    let told = err_from_is_err_and c.from_residual.result c.from_residual.ensures.1 in
    rw (told.1, told.2) (stopped_end (g.R.Read.remaining c.read_whole.new.reader) (g.R.Read.remaining c.args.reader.now) c.in_err-bytes.field-0.0 c.in_err-bytes.ensures.stopped)

pub returns-clause-read : goal.returns-clause-read
returns-clause-read g c =
    let ended = c.in_ok-bytes.ensures.ended in
    whole_reading (g.R.Read.remaining c.args.reader.now) (g.R.Read.remaining c.read_whole.new.reader) c.in_ok-bytes.bytes.items c.parse.result ended.0 ended.2
    (rw c.deref.ensures.value at c.parse.ensures.answer)

pub returns-clause-known : goal.returns-clause-known
returns-clause-known g c =
    let ended = c.in_ok-bytes.ensures.ended in
    whole_known (g.R.Read.remaining c.args.reader.now) (g.R.Read.remaining c.read_whole.new.reader) c.in_ok-bytes.bytes.items c.parse.result ended.0 ended.1
    (rw c.deref.ensures.value at c.parse.ensures.answer)

pub returns-clause-at_end : goal.returns-clause-at_end
returns-clause-at_end g c = whole_end (g.R.Read.remaining c.read_whole.new.reader) c.parse.result c.in_ok-bytes.ensures.ended.1

pub returns-in_err-bytes-clause-failed : goal.returns-in_err-bytes-clause-failed
returns-in_err-bytes-clause-failed g c = passed_on _ c.in_err-bytes.field-0.0 _ c.from_residual.ensures.1 c.in_err-bytes.ensures.failed

pub returns-clause-failed : goal.returns-clause-failed
returns-clause-failed g c =
    never_failed c.in_ok-bytes.bytes.items c.parse.result _ (rw c.deref.ensures.value at c.parse.ensures.answer)
