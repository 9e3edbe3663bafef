use Rattle.std.proofs.Common.{ap, ◌∙◌, ◌++◌, Err, refl}
use Rattle.std.proofs.lemmas.Result.{err_from_is_err_and}
use Rattle.dump_format.specs.Text.{ending_text, lbd2_text}
use Rattle.dump_writing.specs.Parts.{front_text}
use Rattle.dump_writing.proofs.Plans.{dump_parts}
use Rattle.dump_writing.proofs.Sending.{fails, goes_on}
use Rattle.dump_writing.proofs.writing.write_dump_logged.Goals as goal

pub returns-in_err-put_front-clause-written : goal.returns-in_err-put_front-clause-written
returns-in_err-put_front-clause-written g c =
    let p = err_from_is_err_and c.from_residual.result c.from_residual.ensures.1 in
    let d = c.args.dump.now in
    let rest = ending_text d.recorded in
    let puts = fails _ _ (front_text c.snapshot.result.now) rest (lbd2_text d) c.in_err-put_front.field-0.0 c.from_residual.result
    (ap (λ s. front_text s ++ rest) c.snapshot.ensures.value ∙ dump_parts d) c.in_err-put_front.ensures.written (p.1 ∙ ap Err p.2) in
    (lbd2_text d, record { dump = c.snapshot.ensures.consistent; spelled = refl }, puts)

pub returns-clause-written : goal.returns-clause-written
returns-clause-written g c =
    let d = c.args.dump.now in
    let rest = ending_text d.recorded in
    let puts = goes_on _ _ _ (front_text c.snapshot.result.now) rest (lbd2_text d) c.put_ending.result
    (ap (λ s. front_text s ++ rest) c.snapshot.ensures.value ∙ dump_parts d) c.in_ok-put_front.ensures.written c.put_ending.ensures.written in
    (lbd2_text d, record { dump = c.snapshot.ensures.consistent; spelled = refl }, puts)
