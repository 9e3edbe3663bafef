use Rattle.std.proofs.lemmas.Result.{err_from_is_err_and}
use Rattle.workload.specs.Machine.{state_of}
use Rattle.workload.proofs.Pieces.{all_answered, end_ends, end_shows, ends_unread, passed_on}
use Rattle.workload.proofs.workload.Workload.read_from_logged.Goals as goal

pub returns-in_err-feed_all-clause-read : goal.returns-in_err-feed_all-clause-read
returns-in_err-feed_all-clause-read g c =
    let told = err_from_is_err_and c.from_residual.result c.from_residual.ensures.1 in
    let stopped = c.in_err-feed_all.ensures.stopped in
    rw (told.1, told.2) (stopped.0, stopped.1, stopped.2, stopped.3)

pub returns-in_err-feed_all-clause-at_end : goal.returns-in_err-feed_all-clause-at_end
returns-in_err-feed_all-clause-at_end g c =
    let told = err_from_is_err_and c.from_residual.result c.from_residual.ensures.1 in
    rw (told.1, told.2) c.in_err-feed_all.ensures.stopped.4

pub returns-clause-read : goal.returns-clause-read
returns-clause-read g c =
    let ended = c.in_ok-feed_all.ensures.ended in
    end_shows (g.R.Read.remaining c.args.reader.now) (g.R.Read.remaining c.feed_all.new.reader) ended.0
    (state_of c.feed_all.new.judge) c.end.result ended.3 ended.1 ended.5 c.end.ensures.ends

pub returns-clause-known : goal.returns-clause-known
returns-clause-known g c =
    let ended = c.in_ok-feed_all.ensures.ended in
    all_answered (g.R.Read.remaining c.args.reader.now) (g.R.Read.remaining c.feed_all.new.reader) ended.0 (state_of c.feed_all.new.judge) c.end.result
    ended.3 ended.4 ended.1 ended.5 c.end.ensures.ends

pub returns-clause-at_end : goal.returns-clause-at_end
returns-clause-at_end g c =
    end_ends (g.R.Read.remaining c.feed_all.new.reader) (state_of c.feed_all.new.judge) c.end.result c.in_ok-feed_all.ensures.ended.4 c.end.ensures.ends

pub returns-in_err-feed_all-clause-failed : goal.returns-in_err-feed_all-clause-failed
returns-in_err-feed_all-clause-failed g c = passed_on _ c.in_err-feed_all.field-0.0 _ _ c.from_residual.ensures.1 c.in_err-feed_all.ensures.failed

pub returns-clause-failed : goal.returns-clause-failed
returns-clause-failed g c = ends_unread (state_of c.feed_all.new.judge) c.end.result _ c.end.ensures.ends
