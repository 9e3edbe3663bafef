use Rattle.std.proofs.Common.{subst}
use Rattle.std.proofs.lemmas.Result.{err_from_is_err_and}
use Rattle.lb_dump.specs.Reading.{EndsReading, Progress}
use Rattle.lb_dump.proofs.ReadPieces.{all_answered, fault_answers, no_answer, no_failure, passed_on, whatever}
use Rattle.lb_dump.proofs.decoding.read_from_logged.Goals as goal

pub returns-in_err-feed_all-clause-known : goal.returns-in_err-feed_all-clause-known
returns-in_err-feed_all-clause-known g c =
    let p = err_from_is_err_and c.from_residual.result c.from_residual.ensures.1 in
    rw (p.1, p.2) (fault_answers g.row.A.Denot (g.R.Read.remaining c.args.reader.now) c.in_err-feed_all.field-0.0 c.in_err-feed_all.ensures.fault)

pub returns-clause-known : goal.returns-clause-known
returns-clause-known g c =
    let ended = c.in_ok-feed_all.ensures.ended in
    all_answered (g.R.Read.remaining c.args.reader.now) (g.R.Read.remaining c.feed_all.new.reader) ended.0 c.end.result ended.2 ended.3
    (subst (λ (p : Progress). EndsReading p c.end.result) ended.1 c.end.ensures.ends)

pub returns-in_err-feed_all-clause-at_end : goal.returns-in_err-feed_all-clause-at_end
returns-in_err-feed_all-clause-at_end g c = no_answer _ _ c.from_residual.ensures.0

pub returns-in_err-feed_all-clause-so_far : goal.returns-in_err-feed_all-clause-so_far
returns-in_err-feed_all-clause-so_far g c = passed_on _ c.in_err-feed_all.field-0.0 _ _ c.from_residual.ensures.1 c.in_err-feed_all.ensures.so_far

pub returns-clause-at_end : goal.returns-clause-at_end
returns-clause-at_end g c = whatever _ _ c.in_ok-feed_all.ensures.ended.3

pub returns-clause-so_far : goal.returns-clause-so_far
returns-clause-so_far g c =
    let ended = c.in_ok-feed_all.ensures.ended in
    no_failure _ _ ended.0 _ ended.1 c.end.ensures.ends

pub returns-in_err-feed_all-clause-failed : goal.returns-in_err-feed_all-clause-failed
returns-in_err-feed_all-clause-failed g c = passed_on _ c.in_err-feed_all.field-0.0 _ _ c.from_residual.ensures.1 c.in_err-feed_all.ensures.failed

pub returns-clause-failed : goal.returns-clause-failed
returns-clause-failed g c =
    let ended = c.in_ok-feed_all.ensures.ended in
    no_failure _ _ ended.0 _ ended.1 c.end.ensures.ends
