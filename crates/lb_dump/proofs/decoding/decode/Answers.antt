use Rattle.std.proofs.Common.{◌≡◌, subst, [], Ok}
use Rattle.std.proofs.lemmas.Result.{err_from_is_err_and}
use Rattle.lb_dump.specs.Reading.{EndsReading, Progress}
use Rattle.lb_dump.proofs.Answered.{answered, refused}
use Rattle.lb_dump.proofs.ReadPieces.{fed, fed_fault, answer_at_end}
use Rattle.lb_dump.proofs.decoding.decode.Goals as goal

pub returns-in_err-feed-clause-answer : goal.returns-in_err-feed-clause-answer
returns-in_err-feed-clause-answer g c =
    let told = err_from_is_err_and c.from_residual.result c.from_residual.ensures.1 in
    rw (told.1, told.2) (fed_fault g.row.A.Denot c.args.bytes.now c.in_err-feed.field-0.0 c.new-reader.result c.feed.new.self c.new-reader.ensures.value c.in_err-feed.ensures.fed)

pub returns-in_err-feed-clause-again : goal.returns-in_err-feed-clause-again
returns-in_err-feed-clause-again g c =
    λ s is. answered s c.args.bytes.now c.from_residual.result (returns-in_err-feed-clause-answer g c) is

pub returns-in_err-feed-clause-first : goal.returns-in_err-feed-clause-first
returns-in_err-feed-clause-first g c =
    λ e fault. refused c.args.bytes.now e c.from_residual.result (returns-in_err-feed-clause-answer g c) fault

pub returns-clause-answer : goal.returns-clause-answer
returns-clause-answer g c =
    let text : c.feed.new.self ≡ Ok c.args.bytes.now = fed [] c.args.bytes.now c.new-reader.result c.feed.new.self c.new-reader.ensures.value c.in_ok-feed.ensures.fed in
    answer_at_end c.args.bytes.now c.end.result (subst (λ (p : Progress). EndsReading p c.end.result) text c.end.ensures.ends)

pub returns-clause-again : goal.returns-clause-again
returns-clause-again g c = λ s is. answered s c.args.bytes.now c.end.result (returns-clause-answer g c) is

pub returns-clause-first : goal.returns-clause-first
returns-clause-first g c = λ e fault. refused c.args.bytes.now e c.end.result (returns-clause-answer g c) fault
