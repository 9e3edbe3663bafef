use Rattle.std.proofs.Common.{ap, ◌∙◌, ◌++◌, Err, List, ℕ}
use Rattle.std.specs.Int.{w32}
use Rattle.std.proofs.lemmas.Result.{err_from_is_err_and}
use Rattle.dump_format.specs.Text.{elements_text}
use Rattle.dump_writing.proofs.Sending.{fails, goes_on}
use Rattle.dump_writing.proofs.narrow.put_narrow.Goals as goal

pub returns-in_err-put-clause-written : goal.returns-in_err-put-clause-written
returns-in_err-put-clause-written g c =
    let p = err_from_is_err_and c.from_residual.result c.from_residual.ensures.1 in
    let elements = elements_text w32 c.args.snapshot.now.loads.now c.args.snapshot.now.sizes.now in
    fails _ _ c.head.result elements _ c.in_err-put.field-0.0 c.from_residual.result (ap (λ (h : List ℕ). h ++ elements) c.head.ensures) c.in_err-put.ensures.written (p.1 ∙ ap Err p.2)

pub returns-clause-written : goal.returns-clause-written
returns-clause-written g c =
    let elements = elements_text w32 c.args.snapshot.now.loads.now c.args.snapshot.now.sizes.now in
    goes_on _ _ _ c.head.result elements _ c.put_items.result (ap (λ (h : List ℕ). h ++ elements) c.head.ensures) c.in_ok-put.ensures.written c.put_items.ensures.written
