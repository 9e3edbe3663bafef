use Rattle.std.proofs.lemmas.Result.{err_from_is_err_and}
use Rattle.workload.proofs.Pieces.{judged_on, still_stopped}
use Rattle.workload.proofs.reading.judge_piece.Goals as goal

pub returns-in_err-judged : goal.returns-in_err-judged
returns-in_err-judged g c =
    let told = err_from_is_err_and c.from_residual.result c.from_residual.ensures.1 in
    record {
      judged = λ text before. rw (told.1, told.2)
          (still_stopped text c.args.piece.now c.args.judge.now c.args.judge.now c.in_err-judged.field-0.0 (rw c.in_err-judged.was at before));
    }

pub returns : goal.returns
returns g c =
    record {
      judged = λ text before. judged_on text c.args.piece.now c.args.judge.now c.feed.new.self c.in_ok-judged.field-0 c.feed.result
          c.feed.ensures.fed (rw c.in_ok-judged.was at before);
    }
