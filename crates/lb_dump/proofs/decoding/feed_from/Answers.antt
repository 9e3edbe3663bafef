use Rattle.std.proofs.Common.{◌++◌, ◌∙◌, ap, take, [], subst, inr, Ok, Err, arith}
use Rattle.std.proofs.KnownBytes.{Consumes-kept, Consumes-trans}
use Rattle.std.proofs.lemmas.Result.{err_from_is_err_and}
use Rattle.lb_dump.specs.Reading.{Feeds, Progress}
use Rattle.lb_dump.proofs.ReadPieces.{fed_broken, faulted, no_answer, no_read_fault, none_consumed, read_failed}
use Rattle.lb_dump.proofs.Standing.{none_good}
use Rattle.lb_dump.proofs.decoding.feed_from.Goals as goal

pub returns-in_err-feed-clause-fault : goal.returns-in_err-feed-clause-fault
returns-in_err-feed-clause-fault g c =
    let p = err_from_is_err_and c.from_residual.result c.from_residual.ensures.1 in
    let e = c.in_err-feed.field-0.0 in
    let before = c.loop-call.invariant in
    faulted _ _ e (p.1 ∙ ap Err p.2) (fed_broken _ _ _ before.0 (take c.in-Ok.len c.read.new.buf) c.loop-call.dump c.feed.new.self e before.1
    before.2 c.in-Ok.ensures.bytes.0 c.in_err-feed.ensures.fed)

pub loop-call-preserved : goal.loop-call-preserved
loop-call-preserved g c =
    let before = c.loop-call.invariant in
    let piece = take c.in-Ok.len c.read.new.buf in
    let after = subst (λ (p : Progress). Feeds p piece (Ok tt) c.feed.new.self) before.1 c.in_ok-feed.ensures.fed in
    (before.0 ++ piece, after.1, Consumes-trans _ _ _ before.0 piece before.2 c.in-Ok.ensures.bytes.0, after.0, omega arith, omega (arith, c.read.ensures.reads, before.5))

-- a failure is no end
pub returns-in_default-clause-ended : goal.returns-in_default-clause-ended
returns-in_default-clause-ended g c = tt

pub returns-in_default-clause-fault : goal.returns-in_default-clause-fault
returns-in_default-clause-fault g c = read_failed _

pub returns-in_default-clause-so_far : goal.returns-in_default-clause-so_far
returns-in_default-clause-so_far g c =
    let before = c.loop-call.invariant in
    λ _. (before.0, Consumes-kept _ _ _ before.0 before.2 c.in_default.ensures.bytes, before.3)

pub returns-in_err-feed-clause-ended : goal.returns-in_err-feed-clause-ended
returns-in_err-feed-clause-ended g c = no_answer _ _ c.from_residual.ensures.0

pub returns-clause-fault : goal.returns-clause-fault
returns-clause-fault g c = read_failed _

pub returns-clause-so_far : goal.returns-clause-so_far
returns-clause-so_far g c =
    let before = c.loop-call.invariant in
    λ _. (before.0, before.2, before.3)

pub loop-call-init : goal.loop-call-init
loop-call-init g c = ([], c.requires.fresh, none_consumed (g.R.Read.remaining c.args.reader.now), none_good, c.requires.room, omega arith)

pub returns-in_err-feed-clause-so_far : goal.returns-in_err-feed-clause-so_far
returns-in_err-feed-clause-so_far g c =
    let p = err_from_is_err_and c.from_residual.result c.from_residual.ensures.1 in
    let before = c.loop-call.invariant in
    rw (p.1, p.2) (no_read_fault before.0 (take c.in-Ok.len c.read.new.buf) c.loop-call.dump c.feed.new.self c.in_err-feed.field-0.0 _ before.1 c.in_err-feed.ensures.fed)

pub returns-in_err-feed-clause-failed : goal.returns-in_err-feed-clause-failed
returns-in_err-feed-clause-failed g c =
    let p = err_from_is_err_and c.from_residual.result c.from_residual.ensures.1 in
    let before = c.loop-call.invariant in
    rw (p.1, p.2) (no_read_fault before.0 (take c.in-Ok.len c.read.new.buf) c.loop-call.dump c.feed.new.self c.in_err-feed.field-0.0 _ before.1 c.in_err-feed.ensures.fed)

-- the reader was called as often as it may be
pub returns-clause-failed : goal.returns-clause-failed
returns-clause-failed g c = λ _. inr (omega (arith, c.loop-call.invariant.5))
