use Rattle.std.proofs.Common.{◌∙◌, ap, sym, arith}
use Rattle.std.proofs.lemmas.Result.{err_from_is_err_and}
use Rattle.workload.specs.Machine.{run, state_of}
use Rattle.workload.proofs.Pieces.{end_answer, fault_answer}
use Rattle.workload.proofs.Texts.{answered, refused}
use Rattle.workload.proofs.workload.Workload.parse.Goals as goal

pub returns-in_err-feed-clause-answer : goal.returns-in_err-feed-clause-answer
returns-in_err-feed-clause-answer g c =
    let told = err_from_is_err_and c.from_residual.result c.from_residual.ensures.1 in
    rw (told.1, told.2) (fault_answer c.args.bytes.now (state_of c.new-judge.result) c.in_err-feed.field-0.0 c.new-judge.ensures.fresh (omega arith) c.in_err-feed.ensures.fed)

pub returns-in_err-feed-clause-again : goal.returns-in_err-feed-clause-again
returns-in_err-feed-clause-again g c =
    λ w is. answered w c.args.bytes.now c.from_residual.result (returns-in_err-feed-clause-answer g c) is

pub returns-in_err-feed-clause-first : goal.returns-in_err-feed-clause-first
returns-in_err-feed-clause-first g c =
    λ e fault. refused c.args.bytes.now e c.from_residual.result (returns-in_err-feed-clause-answer g c) fault

pub returns-clause-answer : goal.returns-clause-answer
returns-clause-answer g c =
    end_answer c.args.bytes.now (state_of c.feed.new.self) c.end.result (ap (run c.args.bytes.now) (sym c.new-judge.ensures.fresh) ∙ c.in_ok-feed.ensures.fed.0)
    (omega arith) c.end.ensures.ends

pub returns-clause-again : goal.returns-clause-again
returns-clause-again g c = λ w is. answered w c.args.bytes.now c.end.result (returns-clause-answer g c) is

pub returns-clause-first : goal.returns-clause-first
returns-clause-first g c =
    λ e fault. refused c.args.bytes.now e c.end.result (returns-clause-answer g c) fault
